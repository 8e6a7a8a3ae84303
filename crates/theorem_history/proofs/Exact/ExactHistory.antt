-- The wait is exact (rule 6.5): each connected pair has a history in which a transfer has its first cycle at clock w + 1, and
-- none before.
-- Assumes nothing.
use mathlib.Core.Path.{◌≡◌, refl, sym, ap, subst, ◌∙◌}
use mathlib.Core.Bool.{true, false}
use mathlib.Core.Logic.{◌⊎◌, inl, inr}
use Prim.Native.Nat.{ℕ, ◌≤◌, ◌<◌}
use native.Mathlib.Decide.{ℕ_discrete}
use native.Mathlib.Omega.{arith}
use Rattle.description_board.specs.declared.Board.{Board}
use Rattle.description_board.specs.Records.{shares_at, connected}
use Rattle.description_board.specs.Legal.{Legal}
use Rattle.description_board.proofs.PairLaws.{connected_pair}
use Rattle.fabric_transfer.specs.declared.Transfer.{Transfer}
use Rattle.fabric_state.specs.declared.State.{State}
use Rattle.fabric_state.specs.Records.{transfer_at, slot_at, late_at}
use Rattle.fabric_state.specs.Posting.{Request, with_transfer}
use Rattle.fabric_calls.specs.Calls.{World, reset, post}
use Rattle.fabric_state.proofs.StateLaws.{transfer_with, transfer_with_other, late_with}
use Rattle.wait_turns.specs.Waits.{quoted_wait}
use Rattle.theorem_bounds.proofs.Credit.{credit_zero}
use Rattle.theorem_bounds.proofs.Potential.{quoted_between}
use Rattle.theorem_history.specs.Claim.{Start, Lent, History, after, slave_for, wait_for, Accepted, Exact}
use Rattle.theorem_history.proofs.OneClock.PairFigures.{shares_of, single_of, longest_of, turns_between}
use Rattle.theorem_history.proofs.OneClock.PairFigures.{wait_quoted}
use Rattle.theorem_history.proofs.OneClock.UsableGrants.{usable_at, usable_none}
use Rattle.theorem_history.proofs.OneClock.SlaveClock.{pot_at, left_rests}
use Rattle.theorem_history.proofs.Histories.CallCases.{with_post, post_leaves}
use Rattle.theorem_history.proofs.Histories.OnePost.{Taken, pot_with}
use Rattle.theorem_history.proofs.Histories.Standing.{Standing, post_stands}
use Rattle.theorem_history.proofs.Histories.Unrefused.{post_free}
use Rattle.theorem_history.proofs.Exact.DueRequests.{request_for, transfer_for, request_slave, request_taken, request_asks}
use Rattle.theorem_history.proofs.Exact.DueClock.{due_at, Has, Tracked}
use Rattle.theorem_history.proofs.Exact.CallsDuringWait.{waits_out}
use Rattle.theorem_history.proofs.Exact.CallsBeforeWait.{Rested, lead}

module _
    (b : Board) (legal : Legal b) (s : ℕ) (hs : s < b.slave_count) (m : ℕ) (hm : m < b.master_count)
    (has : 1 ≤ shares_at b m s) (w : World) (x : Rested b s m w)
  where
    -- m posts what is due, where nobody holds a transfer
    abbrev due : ℕ
    due = due_at b s w.state m

    abbrev asked : Request
    asked = request_for b s m due

    abbrev then : State
    then = with_transfer w.state m (transfer_for b s m due)

    taken : Taken b w.state asked
    taken = request_taken b legal s hs m hm has w.state due (x.free m)

    stands : Standing b (with_post w asked)
    stands = post_stands b legal w asked x.stands taken

    holds : transfer_at then m ≡ transfer_for b s m due
    holds = transfer_with w.state m (transfer_for b s m due) x.stands.sound.transfers (omega (arith, legal.few_masters))

    for_slave : slave_for b asked ≡ s
    for_slave = request_slave b legal s hs m hm has due

    -- and has the quoted wait before it
    wait_whole : pot_at b then s m ≡ wait_for b asked
    unfolding wait_for request_for
    wait_whole =
        let o = (slot_at w.state s).owner in
        omega (
          arith,
          pot_with b w.state x.stands.sound m (transfer_for b s m due) (x.free m) s m hs,
          left_rests b w.state s x.serving,
          credit_zero (single_of b s o) (longest_of b s o) (usable_at b w.state s)
              (usable_none b w.state s (slot_at w.state s) x.remaining),
          ap (λ (i : ℕ). turns_between b s i m) x.owner,
          quoted_between b.master_count (shares_of b s) (single_of b s) (longest_of b s) m hm,
          wait_quoted b s hs m,
          ap (quoted_wait b m) for_slave,
        )

    starts : Tracked b s m (wait_for b asked) (with_post w asked).state
    unfolding with_transfer request_for transfer_for
    starts = record {
      sound = stands.sound;
      asks = request_asks b legal s hs m hm has (with_post w asked).state due (free m) holds;
      aside = λ _. (x.serving, x.remaining);
      count = wait_whole;
      owes = λ j hj shared. go j (ℕ_discrete j m);
      plain = λ some. absurd (omega (arith, x.remaining, some));
    }
      where
        free : (j : ℕ) → late_at (with_post w asked).state j ≡ 0
        free j = late_with w.state m (transfer_for b s m due) j ∙ x.stands.sound.free j (x.free j)

        go : (j : ℕ) → Dec (j ≡ m)
            → ((transfer_at (with_post w asked).state j).held ≡ false) ⊎ Has b s m (with_post w asked).state j
        go j (yes q) = inr (subst (Has b s m (with_post w asked).state) (sym q) (inr (inl (free m, holds))))
        go j (no q) =
            inl (ap (λ (t : Transfer). t.held) (transfer_with_other w.state m (transfer_for b s m due) j q) ∙ x.free j)

pub exact_history : (b : Board) → Legal b → (w : World) (m s : ℕ) → Start b w → Lent b w → m < b.master_count
    → connected b m s ≡ true → Exact b w m s
unfolding reset Accepted post request_for
exact_history b legal w m s x lent hm c =
    let p = connected_pair b m s c in
    let hs = p.0 in
    let has = p.1 in
    let ok = x.accepted in
    let l = lead b legal s hs m ok hm has w x lent in
    let u = after w l.calls in
    let q = asked b legal s hs m hm has u l.end in
    let e = post_free b legal ok u l.end.stands q (taken b legal s hs m hm has u l.end) in
    let r =
    waits_out b legal ok s hs m hm (wait_for b q) (with_post u q) (stands b legal s hs m hm has u l.end)
    (starts b legal s hs m hm has u l.end) in
    record {
      before = l.calls;
      request = q;
      calls = r.calls;
      earlier = l.history;
      accepted = e;
      master = refl;
      slave = for_slave b legal s hs m hm has u l.end;
      later = subst (λ (v : World). History b v r.calls) (sym (post_leaves b u q e)) r.history;
      clocks = r.count;
      waits = r.before;
      starts = r.then;
    }
