-- What the program prints for P11's file, byte for byte as document 01 shows it with lines eight and nine ending in 2 (document 02, b),
-- and for a refused one; `printed` in proofs/Controls.antt computes each.
use Rattle.std.specs.Prelude.{◌≡◌, List, [], ◌∷◌, ◌++◌, ℕ}
use Rattle.day_file.specs.Controls.{p11_file}
use Rattle.text.specs.Lines.{space, newline, decimal, lines}
use Rattle.text.specs.File.{file_text}

-- four characters, as ASCII bytes, parted by spaces
abbrev pub row : ℕ → ℕ → ℕ → ℕ → List ℕ
row a b c d = a ∷ space ∷ b ∷ space ∷ c ∷ space ∷ d ∷ newline ∷ []

abbrev pub dash : ℕ
dash = 45

pub record Printed : Type 0 where
  -- 0 1 - 0, 0 3 - 0, 0 4 0 1, 0 1 - 0, 0 2 - 0, 0 2 - 0, 0 5 0 1, 0 5 - 2, 0 0 - 2, 0 3 - 0, 0 4 0 1
  pub p11 :
      file_text p11_file
      ≡ row 48 49 dash 48
      ++ row 48 51 dash 48
      ++ row 48 52 48 49
      ++ row 48 49 dash 48
      ++ row 48 50 dash 48
      ++ row 48 50 dash 48
      ++ row 48 53 48 49
      ++ row 48 53 dash 50
      ++ row 48 48 dash 50
      ++ row 48 51 dash 48
      ++ row 48 52 48 49
  -- refused 10
  pub none : file_text [] ≡ 114 ∷ 101 ∷ 102 ∷ 117 ∷ 115 ∷ 101 ∷ 100 ∷ space ∷ 49 ∷ 48 ∷ newline ∷ []
  -- 15 - - - is what a broken state's event shows; 254 is the highest figure
  pub figures : (lines (15 ∷ 255 ∷ 255 ∷ 255 ∷ []) ≡ 49 ∷ row 53 dash dash dash) × (decimal 254 ≡ 50 ∷ 53 ∷ 52 ∷ [])
