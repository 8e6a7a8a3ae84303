-- One text for each board (rules 1.4, 1.5, 1.9): what holds of all texts that are taken. `one_text` proves it.
-- Assumes nothing.
use Rattle.std.specs.Prelude.{◌≡◌, List, ℕ}
use Rattle.description.specs.Reader.{read_text}
use Rattle.description.specs.Writer.{write_text}

-- rule 8.1: the text is not refused
abbrev pub Taken : List ℕ → Type 0
Taken t = (read_text t).number ≡ 0

-- rule 1.9: a text that is taken is what the writer puts for its board; two that have one board, or for which the writer puts the same
-- lines, are equal
pub record OneText : Type 0 where
  pub written : (t : List ℕ) → Taken t → write_text (read_text t).board ≡ t
  pub board : (s t : List ℕ) → Taken s → Taken t → (read_text s).board ≡ (read_text t).board → s ≡ t
  pub lines : (s t : List ℕ) → Taken s → Taken t → write_text (read_text s).board ≡ write_text (read_text t).board → s ≡ t
