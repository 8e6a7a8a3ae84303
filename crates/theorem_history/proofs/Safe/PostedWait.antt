-- A post for a slave that is taken, where a history has led: its master waits there, and what it may have to wait for is at most the
-- quoted wait, because every slave is within its owner's turn.
-- Assumes nothing.
use mathlib.Core.Path.{◌≡◌, refl, ap, ◌∙◌}
use mathlib.Core.Bool.{Bool, true, false}
use mathlib.Core.Logic.{◌≢◌}
use Prim.Native.Nat.{ℕ, ◌+◌, ◌*◌, ◌≤◌, ◌<◌}
use native.Mathlib.Nat.{mul-le-mul}
use native.Mathlib.Omega.{arith}
use Rattle.description_board.specs.declared.Board.{Board}
use Rattle.description_board.specs.Records.{master_at, slave_at}
use Rattle.description_board.specs.Legal.{Legal}
use Rattle.fabric_transfer.specs.declared.Transfer.{Transfer}
use Rattle.fabric_transfer.specs.Accesses.{wait_of, latency_of, own_length}
use Rattle.fabric_state.specs.declared.State.{State}
use Rattle.fabric_state.specs.Records.{transfer_at, slot_at}
use Rattle.fabric_state.specs.Posting.{Request, transfer_of, with_transfer}
use Rattle.fabric_calls.specs.Calls.{World}
use Rattle.fabric_state.proofs.StateLaws.{transfer_with, slot_with, late_with}
use Rattle.fabric_state.proofs.RequestLaws.{Accepted, accepted, accepted_accesses, target_mapped, requests_of}
use Rattle.theorem_bounds.proofs.Potential.{pot_quoted}
use Rattle.theorem_history.specs.Claim.{slave_for, Mapped, wait_for, length_of, late_for}
use Rattle.theorem_history.proofs.OneClock.PairFigures.{shares_of, single_of, longest_of, wait_quoted}
use Rattle.theorem_history.proofs.OneClock.AfterGrant.{left_at}
use Rattle.theorem_history.proofs.OneClock.UsableGrants.{usable_at, usable_none}
use Rattle.theorem_history.proofs.OneClock.SlaveClock.{InTurn, left_rests}
use Rattle.theorem_history.proofs.Histories.OnePost.{Taken, asks_other, pot_with}
use Rattle.theorem_history.proofs.Histories.Standing.{Standing}
use Rattle.theorem_history.proofs.Safe.WaitBounds.{Waiting}

module _ (b : Board) (legal : Legal b) where
  module _ (st : State) (q : Request) (mapped : Mapped b q) (taken : Taken b st q) where
    -- the request is for a slave of the board
    pub fits : Accepted b q.master (transfer_of q) (slave_for b q)
    unfolding slave_for
    fits =
        accepted b legal q.master (transfer_of q) taken.fits (target_mapped b q.master (transfer_of q) mapped)

    -- its transfer lasts a clock at least, and no longer than rule 6.4 allows it
    pub lasts : 1 ≤ own_length (master_at b q.master) (slave_at b (slave_for b q)) (transfer_of q)
    unfolding own_length
    lasts =
        let sl = slave_at b (slave_for b q) in
        let a : 1 ≤ 1 + wait_of sl (transfer_of q) = omega arith in
        let some = accepted_accesses b legal q.master (slave_for b q) (transfer_of q) taken.master fits in
        let p : 1 * 1 ≤ own_length (master_at b q.master) sl (transfer_of q) = mul-le-mul some a in
        p

    pub own_length_lem : own_length (master_at b q.master) (slave_at b (slave_for b q)) (transfer_of q) ≤ length_of b q
    unfolding length_of
    own_length_lem = omega arith

    -- and is finished no later behind it
    pub own_latency : latency_of (slave_at b (slave_for b q)) (transfer_of q) ≤ late_for b q
    unfolding late_for
    own_latency = omega arith

  module _ (w : World) (x : Standing b w) (q : Request) (mapped : Mapped b q) (taken : Taken b w.state q) where
    abbrev st : State
    st = w.state

    abbrev m : ℕ
    m = q.master

    abbrev s : ℕ
    s = slave_for b q

    abbrev then : State
    then = with_transfer st m (transfer_of q)

    hs : s < b.slave_count
    hs = (fits st q mapped taken).within

    holds : transfer_at then m ≡ transfer_of q
    holds = transfer_with st m (transfer_of q) x.sound.transfers (omega (arith, taken.master, legal.few_masters))

    -- the slave does not serve a master that holds nothing
    off : (slot_at st s).serving ≡ true → (slot_at st s).owner ≢ m
    off e = asks_other b st s (slot_at st s).owner m (x.sound.serving s hs e).asks taken.free

    none_left : (slot_at st s).owner ≡ m → left_at b st s ≡ 0
    none_left o = go (slot_at st s).serving refl
      where
        go : (c : Bool) → (slot_at st s).serving ≡ c → left_at b st s ≡ 0
        go true e = absurd (off e o)
        go false e = left_rests b st s e

    pub posted_waits : Waiting b m s (transfer_of q) (wait_for b q) then
    unfolding InTurn wait_for
    posted_waits = record {
      holds = holds;
      asks = requests_of b then s m (late_with st m (transfer_of q) m ∙ x.sound.free m taken.free)
          (ap (λ (t : Transfer). t.held) holds) (rw holds (fits st q mapped taken).selected);
      off = rw (slot_with st m (transfer_of q) s) off;
      bound = λ a.
          let aside : (slot_at st s).owner ≡ m → (slot_at st s).remaining ≡ 0 = rw (slot_with st m (transfer_of q) s) at a in
          let turn : InTurn b s (slot_at st s).owner (usable_at b st s) (left_at b st s) = x.paced s hs in
          omega (
            arith,
            pot_with b st x.sound m (transfer_of q) taken.free s m hs,
            wait_quoted b s hs m,
            pot_quoted b.master_count (shares_of b s) (single_of b s) (longest_of b s) m (slot_at st s).owner
                (usable_at b st s) (left_at b st s) taken.master (x.sound.owner s hs) turn
                (λ o. (usable_none b st s (slot_at st s) (aside o), none_left o)),
          );
    }
