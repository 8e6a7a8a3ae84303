-- Gives the code of description its shape: what the fold over a text's lines leaves in an array.
-- Assumes nothing.
use Rattle.std.specs.Prelude.{◌≡◌, cond, List, ℕ, eqb, Result, IfErr}
use Rattle.common_numbers.specs.declared.Refusal.{Refusal}
use Rattle.common_numbers.specs.Refusals.{refusal_number}
use Rattle.description_board.specs.declared.Reading.{Reading}
use Rattle.description_board.specs.Rules.{described, start}
use Rattle.description_layout.specs.Layout.{board_in}
use Rattle.description_lines.specs.Reader.{items_of}
use Rattle.description.specs.declared.Blame.{Blame}
use Rattle.description.specs.declared.Charged.TheVariants.{Master, Text}
use Rattle.description.specs.Blame.{first_refused, master_named_by, charge_of, charged_by}

-- a refusal at the end
unfoldable pub named : Refusal → ℕ → Blame
named e lowest = record { refusal = e; charged = cond (eqb (refusal_number e) 20) (Master lowest) Text }

-- the number, the line and the master answered, and the board in the array, are those of a reading
pub record Comes (q : Reading) (line master : ℕ) (l : List ℕ) (r : Result Unit Blame) : Type 0 where
  pub charge : charge_of r ≡ record { number = q.number; line = line; master = master }
  pub charged : IfErr r (λ b. b.charged ≡ charged_by (charge_of r))
  pub board : board_in l ≡ q.board

-- the same of all lines of a text
abbrev pub LinesCome : List ℕ → List ℕ → Result Unit Blame → Type 0
LinesCome text l r = let xs = items_of text in Comes (described xs) (first_refused 0 start xs) (master_named_by xs) l r
