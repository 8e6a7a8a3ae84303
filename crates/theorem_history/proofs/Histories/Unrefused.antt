-- Where what a history leaves is handed on, no call is refused for 2 to 9 (rule 6.10): a clock is taken, and a post is taken or
-- refused for its own part.
-- Assumes nothing.
use mathlib.Core.Path.{◌≡◌, ◌∙◌}
use mathlib.Core.Bool.{not}
use mathlib.Core.List.{List}
use mathlib.Core.Logic.{◌⊎◌}
use Prim.Native.Nat.{ℕ, ◌≤◌}
use native.Mathlib.Omega.{arith}
use lib.Dec.{eqb, leb}
use lib.ListN.{length}
use Rattle.common_laws.proofs.Tests.{at_most}
use Rattle.description_board.specs.declared.Board.{Board}
use Rattle.description_board.specs.Records.{master_at, slave_at}
use Rattle.description_board.specs.Items.{board_refusal}
use Rattle.description_board.specs.Legal.{Legal}
use Rattle.fabric_transfer.specs.Decoding.{target_of}
use Rattle.fabric_transfer.specs.Bytes.{buffer_length}
use Rattle.fabric_state.specs.declared.State.{State}
use Rattle.fabric_state.specs.Records.{transfer_at}
use Rattle.fabric_state.specs.Posting.{Request, transfer_of, wrong_beats, unaligned, wrong_lanes, unmapped, passes_end}
use Rattle.fabric_state.specs.Posting.{transfer_refusal_by, transfer_refusal}
use Rattle.fabric_state.specs.Soundness.{sound}
use Rattle.fabric_calls.specs.Calls.{World, wrong_words, request_refusal, post_refusal_by, post_refusal, post, clock}
use Rattle.fabric_calls.proofs.PostLaws as posts
use Rattle.fabric_calls.proofs.ClockLaws.{not_refused}
use Rattle.fabric_state.proofs.SoundLaws.{sound_test}
use Rattle.theorem_history.specs.Claim.{Call, Start, Lent, History, after}
use Rattle.theorem_history.proofs.Histories.CallCases.{TakesPost, TakesClock, clock_number}
use Rattle.theorem_history.proofs.Histories.OnePost.{Taken}
use Rattle.theorem_history.proofs.Histories.Standing.{Standing, start_checked, history_stands}

-- a board that is not refused is not refused with 19 or 20 either: a post answers 18 at the most, whatever else it is handed
module _ (b : Board) (ok : board_refusal b ≡ 0) (st : State) (buffer : List ℕ) (q : Request) where
  own_number : transfer_refusal b q.master (transfer_of q) ≤ 18
  unfolding transfer_refusal transfer_refusal_by
  own_number =
      let ma = master_at b q.master in
      let t = transfer_of q in
      let k = target_of b q.master q.address in
      at_most (wrong_beats ma t) 13 _ (omega arith)
      (at_most (unaligned ma t) 14 _ (omega arith)
      (at_most (wrong_lanes ma t) 15 _ (omega arith)
      (at_most (unmapped k b.slave_count) _ _ (at_most b.default_line 0 16 (omega arith) (omega arith))
      (at_most (passes_end ma (slave_at b k) t) 17 0 (omega arith) (omega arith)))))

  pub post_number : (post b st buffer q).number ≤ 18
  unfolding post post_refusal post_refusal_by request_refusal
  post_number =
      let m = q.master in
      let t = transfer_of q in
      at_most (not (eqb (board_refusal b) 0)) (board_refusal b) _ (omega (arith, ok))
      (at_most (not (eqb (length buffer) buffer_length)) 8 _ (omega arith)
      (at_most (not (sound b st)) 9 _ (omega arith)
      (at_most (leb b.master_count m) 11 _ (omega arith)
      (at_most (transfer_at st m).held 12 _ (omega arith)
      (at_most (not (eqb (transfer_refusal b m t) 0)) (transfer_refusal b m t) _ own_number
      (at_most (wrong_words (master_at b m) t (length q.words)) 18 0 (omega arith) (omega arith)))))))

module _ (b : Board) (legal : Legal b) where
  module _ (ok : board_refusal b ≡ 0) (w : World) (x : Standing b w) where
    pub clock_free : TakesClock b w
    clock_free =
        not_refused b w.state w.store ok x.lent.memory x.lent.buffer (sound_test b w.state legal x.sound)

    module _ (q : Request) where
      -- a post is taken, or refused for its own part
      post_late : posts.Late (post_refusal b w.state w.store.buffer q)
      unfolding post_refusal
      post_late =
          posts.refused_late b q.master (transfer_of q) w.state _ (length q.words) ok x.lent.buffer
          (sound_test b w.state legal x.sound)

      -- and nothing is wrong with its own part here
      pub post_free : Taken b w.state q → TakesPost b w q
      unfolding post_refusal
      post_free t =
          posts.not_refused b q.master (transfer_of q) w.state _ (length q.words) ok x.lent.buffer
          (sound_test b w.state legal x.sound) t

  pub unrefused : (w : World) (calls : List Call) (q : Request) → Start b w → Lent b w → History b w calls
      → let u = after w calls in
      ((clock b u.state u.store).number ≡ 0)
      × (((post b u.state u.store.buffer q).number ≡ 0) ⊎ (11 ≤ (post b u.state u.store.buffer q).number))
  unfolding post
  unrefused w calls q start lent h =
      let u = after w calls in
      let x = history_stands b legal w calls start lent h in
      let ok = start_checked b w start in
      (clock_number b u.state u.store ∙ clock_free ok u x, post_late ok u x q)
