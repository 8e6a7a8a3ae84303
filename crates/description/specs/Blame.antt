-- The line of a text that its refusal is charged to, and the master that 20 names (rule 8.3).
-- Assumes nothing.
use Rattle.std.specs.Prelude.{cond, List, [], ◌∷◌, ℕ, ◌+◌, ltb, eqb, length, Result, Ok, Err}
use Rattle.common_numbers.specs.Refusals.{refusal_number}
use Rattle.description_board.specs.declared.Item.{Item}
use Rattle.description_board.specs.declared.Reading.{Reading}
use Rattle.description_board.specs.Rules.{start, step, step_all, without_share, described}
use Rattle.description_lines.specs.Reader.{items_of}
use Rattle.description.specs.Reader.{most_bytes, read_text}
use Rattle.description.specs.declared.Blame.{Blame}
use Rattle.description.specs.declared.Charged.{Charged}
use Rattle.description.specs.declared.Charged.TheVariants.{Line, Master, Text}

-- rule 8.3: the number of the first line refused, after n lines that r has read; 0 if all are taken
unfoldable pub first_refused : ℕ → Reading → List Item → ℕ
first_refused n r [] = 0
first_refused n r (x ∷ xs) = cond (eqb (step r x).number 0) (first_refused (n + 1) (step r x) xs) (n + 1)

-- rule 8.3: the line charged, from 1; 0, no line, for the text's length and for what is missing at the end
unfoldable pub charged_line : List ℕ → ℕ
charged_line text = cond (ltb most_bytes (length text)) 0 (first_refused 0 start (items_of text))

-- rules 7.20, 8.3: the master that these lines' refusal names: the lowest that has no share line; 0 where it is not 20
unfoldable pub master_named_by : List Item → ℕ
master_named_by xs = cond (eqb (described xs).number 20) (without_share (step_all start xs).board) 0

-- rule 8.3: the same of a text
unfoldable pub named_master : List ℕ → ℕ
named_master text = cond (ltb most_bytes (length text)) 0 (master_named_by (items_of text))

-- rule 8.3: a refusal's number, the line charged with it, and the master that it names; each is 0 if there is none
pub record Charge : Type 0 where
  pub number : ℕ
  pub line : ℕ
  pub master : ℕ

-- rules 8.2, 8.3: what `refused_at` answers: the number of `read`, the line charged, and the master named
unfoldable pub refused_at : List ℕ → Charge
refused_at text = record { number = (read_text text).number; line = charged_line text; master = named_master text }

-- the numbers of the call's answer
abbrev pub line_part : Charged → ℕ
line_part (Line n) = n
line_part (Master m) = 0
line_part Text = 0

abbrev pub master_part : Charged → ℕ
master_part (Line n) = 0
master_part (Master m) = m
master_part Text = 0

abbrev pub charge_of : Result Unit Blame → Charge
charge_of (Ok x) = record { number = 0; line = 0; master = 0 }
charge_of (Err b) = record { number = refusal_number b.refusal; line = line_part b.charged; master = master_part b.charged }

-- rule 8.3: what a refusal is charged to: with 20 a master, else the line, if one is charged, else the text
unfoldable pub charged_by : Charge → Charged
charged_by c = cond (eqb c.number 20) (Master c.master) (cond (eqb c.line 0) Text (Line c.line))
