-- What the wait calls answer for an accepted request to a slave (rule 6.6): the w of the claim, and a serve that is no shorter than the
-- request's own length.
-- Assumes nothing.
use mathlib.Core.Path.{◌≡◌, refl, ap, ◌∙◌}
use mathlib.Core.Bool.{true}
use Prim.Native.Nat.{◌≤◌}
use native.Mathlib.Omega.{arith}
use Rattle.common_laws.proofs.Tests.{both}
use Rattle.description_board.specs.declared.Board.{Board}
use Rattle.description_board.specs.Records.{connected}
use Rattle.description_board.specs.Items.{board_refusal}
use Rattle.description_board.specs.Legal.{Legal}
use Rattle.fabric_transfer.specs.Decoding.{selects}
use Rattle.fabric_state.specs.Posting.{Request, transfer_of}
use Rattle.fabric_calls.specs.Calls.{World, post}
use Rattle.wait_turns.specs.Waits.{quoted_wait, serve_of}
use Rattle.wait.specs.Calls.{Quoted, quote_of}
use Rattle.wait.proofs.LookUpLaws.{quote_connected}
use Rattle.theorem_history.specs.Claim.{Accepted, slave_for, Mapped, wait_for, length_of, Figures}
use Rattle.theorem_history.proofs.OneClock.PairFigures.{accepted_long}
use Rattle.theorem_history.proofs.Histories.OnePost.{Taken, post_taken_lem}
use Rattle.theorem_history.proofs.Safe.PostedWait.{fits}
use Rattle.theorem_history.proofs.Quoted.WaitCall.{written_answered}

module _ (b : Board) (legal : Legal b) (ok : board_refusal b ≡ 0) (w : World) (q : Request) (accepted : Accepted b w q)
    (mapped : Mapped b q) where
  taken : Taken b w.state q
  unfolding Accepted post
  taken = post_taken_lem b w q accepted

  joined : connected b q.master (slave_for b q) ≡ true
  unfolding selects
  joined = (both (connected b q.master (slave_for b q)) _ (fits b legal w.state q mapped taken).selected).0

  answer : quote_of b q.master (slave_for b q)
      ≡ record { number = 0; wait = quoted_wait b q.master (slave_for b q); serve = serve_of b q.master (slave_for b q) }
  answer = quote_connected b q.master (slave_for b q) ok taken.master joined

  -- the wait that is quoted is the w of the claim
  wait_is : quoted_wait b q.master (slave_for b q) ≡ wait_for b q
  unfolding wait_for
  wait_is = refl

  length_within : length_of b q ≤ serve_of b q.master (slave_for b q)
  unfolding length_of serve_of
  length_within =
      let fit = fits b legal w.state q mapped taken in
      omega (arith, accepted_long b legal q.master taken.master (transfer_of q) (slave_for b q) fit)

  pub figures : Figures b q
  figures =
      let e = ap (λ (a : Quoted). a.serve) answer in
      record {
        number = ap (λ (a : Quoted). a.number) answer;
        wait = ap (λ (a : Quoted). a.wait) answer ∙ wait_is;
        serve = rw e length_within;
        text = λ out room.
            rw (e, ← wait_is) (written_answered b ok q.master (slave_for b q) out taken.master joined room);
      }
