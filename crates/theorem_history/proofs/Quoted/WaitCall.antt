-- The wait call (rule 5.8) on an accepted text, and on the writer's text of an accepted board: it is taken, and its bytes spell
-- the quoted wait and the serve.
-- Assumes nothing.
use mathlib.Core.Path.{◌≡◌, ap, subst₂, ◌∙◌}
use mathlib.Core.Bool.{true, cond}
use mathlib.Core.List.{List, ◌++◌}
use Prim.Native.Nat.{ℕ, ◌≤◌, ◌<◌}
use lib.Dec.{eqb}
use lib.ListN.{length, drop}
use borrow.Author.Tests.{eq-eqb, le-ltb, lt-leb}
use Rattle.description_board.specs.declared.Board.{Board}
use Rattle.description_board.specs.Records.{connected}
use Rattle.description_board.specs.Items.{board_refusal}
use Rattle.description_board.specs.Legal.{Legal}
use Rattle.description_board.proofs.Accepted.{accepted_legal}
use Rattle.description_board.proofs.PairLaws.{connected_pair}
use Rattle.description.specs.declared.Parsed.{Parsed}
use Rattle.description.specs.Reader.{read_text}
use Rattle.description.specs.Writer.{write_text}
use Rattle.description.proofs.Trip.{read_accepted, read_written}
use Rattle.wait_turns.specs.Waits.{quoted_wait, serve_of}
use Rattle.wait.specs.Answers.{spelled, pair_bytes, pair_refusal, wait_refusal, wait_output}
use Rattle.wait.proofs.FigureBytes.{wait_fits, serve_fits, wait_spelled, serve_spelled}
use Rattle.wait.proofs.WrittenLaws.{masters_trimmed, connected_trimmed, wait_trimmed, serve_trimmed, written_board}
use Rattle.theorem_history.specs.WaitCall.{WaitAnswered}

module _ (text : List ℕ) (accepted : (read_text text).number ≡ 0) where
  abbrev b : Board
  b = (read_text text).board

  legal : Legal b
  legal = accepted_legal b (read_accepted text accepted)

  pub wait_answered : (m s : ℕ) (out : List ℕ) → m < b.master_count → connected b m s ≡ true → 16 ≤ length out
      → WaitAnswered text m s (quoted_wait b m s) (serve_of b m s) out
  unfolding wait_refusal pair_refusal wait_output
  wait_answered m s out hm c room = record {
    number = number;
    wait = ap spelled output ∙ wait_spelled b m s (drop 16 out) (wait_fits b legal m s hm (connected_pair b m s c).0);
    serve =
        ap (λ (o : List ℕ). spelled (drop 8 o)) output
        ∙ serve_spelled b m s (drop 16 out) (serve_fits b legal m s hm (connected_pair b m s c).0);
  }
    where
      number : wait_refusal text m s out ≡ 0
      number =
          rw
          (eq-eqb (read_text text).number 0 accepted, le-ltb (length out) 16 room, lt-leb b.master_count m hm, c)

      output : wait_output text m s out ≡ pair_bytes b m s ++ drop 16 out
      output = ap (λ (n : ℕ). cond (eqb n 0) (pair_bytes b m s ++ drop 16 out) out) number

-- the writer's text of a board has the board's own figures, whatever stands behind its counts
pub written_answered : (b : Board) → board_refusal b ≡ 0 → (m s : ℕ) (out : List ℕ) → m < b.master_count
    → connected b m s ≡ true → 16 ≤ length out → WaitAnswered (write_text b) m s (quoted_wait b m s) (serve_of b m s) out
written_answered b ok m s out hm c room =
    let legal = accepted_legal b ok in
    let hs = (connected_pair b m s c).0 in
    let e = written_board b ok in
    subst₂ (λ (w v : ℕ). WaitAnswered (write_text b) m s w v out)
    (ap (λ (d : Board). quoted_wait d m s) e ∙ wait_trimmed b legal s hs m)
    (ap (λ (d : Board). serve_of d m s) e ∙ serve_trimmed b legal s hs m hm)
    (wait_answered (write_text b) (ap (λ (r : Parsed). r.number) (read_written b ok)) m s out
    (rw (e, masters_trimmed b legal) hm)
    (ap (λ (d : Board). connected d m s) e ∙ connected_trimmed b legal m s hm ∙ c)
    room)
