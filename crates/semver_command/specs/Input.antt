-- The texts that may be versions: the words of the command line, and the lines of standard input.
use Rattle.std.specs.Prelude.{◌≡◌, ◌≢◌, ◌⊎◌, ℕ, List, [], ◌∷◌, ◌++◌, codes}

-- the word for standard input
abbrev pub dash : List ℕ
dash = codes "-"

-- The texts of these words: a `-` stands for lines of standard input. Rows test which.
pub data AreTexts : (words texts : List (List ℕ)) → Type 0 where
  none : AreTexts [] []
  word : (word : List ℕ) (words texts : List (List ℕ)) → word ≢ dash → AreTexts words texts
      → AreTexts (word ∷ words) (word ∷ texts)
  lines : (words lines texts : List (List ℕ)) → AreTexts words texts → AreTexts (dash ∷ words) (lines ++ texts)

-- Without words all texts are lines.
abbrev pub AreAllTexts : (words texts : List (List ℕ)) → Type 0
AreAllTexts words texts = (words ≡ []) ⊎ AreTexts words texts
