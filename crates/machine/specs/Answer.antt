-- What a call answers: 0, or the number of a refusal (document 01, the table of numbers); above each, document 01's word.
use Rattle.std.specs.Prelude.{ℕ}

abbrev pub accepted : ℕ
accepted = 0

-- handsets
abbrev pub processes : ℕ
processes = 1

-- leaves
abbrev pub leaves : ℕ
leaves = 2

-- rows
abbrev pub segments : ℕ
segments = 3

-- bits
abbrev pub bits : ℕ
bits = 4

-- pads
abbrev pub names : ℕ
names = 5

-- stranger
abbrev pub stranger : ℕ
stranger = 6

-- busy
abbrev pub busy : ℕ
busy = 7

-- not moving
abbrev pub not_moving : ℕ
not_moving = 8

-- no pad held
abbrev pub no_name_held : ℕ
no_name_held = 9

-- no day file
abbrev pub no_day_file : ℕ
no_day_file = 10

-- contents
abbrev pub contents : ℕ
contents = 11

-- kind
abbrev pub kind : ℕ
kind = 12

-- short
abbrev pub short : ℕ
short = 13

-- odd
abbrev pub odd : ℕ
odd = 14

-- broken state
abbrev pub broken_state : ℕ
broken_state = 15

-- Document 02, a): the file would pass 32,768 bytes
abbrev pub too_long : ℕ
too_long = 16

-- Document 02, a): the buffer is shorter than the file
abbrev pub no_room : ℕ
no_room = 17

-- Document 02, d): the buffer is under 4,096 bytes
abbrev pub small_buffer : ℕ
small_buffer = 18

-- Document 02, e): a closed number is not below k
abbrev pub closed_name : ℕ
closed_name = 19

-- Document 02, e): no pad stays open
abbrev pub none_open : ℕ
none_open = 20
