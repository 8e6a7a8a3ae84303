-- What a master holds is the transfer of its last request (rules 3.3, 6.7, 6.13): so it is after a reset, and posts, clocks and takes
-- keep it so.
-- Assumes nothing.
use mathlib.Core.Path.{◌≡◌, refl, sym, ap, ◌∙◌}
use mathlib.Core.Bool.{Bool, true, false, false≢true}
use Prim.Native.Nat.{ℕ, ◌<◌}
use native.Mathlib.Decide.{ℕ_discrete}
use native.Mathlib.Omega.{arith}
use lib.ListN.{length}
use borrow.Author.Tests.{eq-eqb, ne_eqb}
use Rattle.description_board.specs.declared.Board.{Board}
use Rattle.fabric_transfer.specs.declared.Transfer.{Transfer}
use Rattle.fabric_transfer.specs.Decoding.{target_of}
use Rattle.fabric_state.specs.declared.Log.{Log}
use Rattle.fabric_state.specs.declared.State.{State}
use Rattle.fabric_state.specs.Records.{transfer_at}
use Rattle.fabric_state.specs.Posting.{Request, transfer_of, with_transfer}
use Rattle.fabric_state.specs.Resetting.{state_at_reset}
use Rattle.fabric_state.specs.Soundness.{unmapped_at}
use Rattle.fabric_state.specs.Logging.{with_log}
use Rattle.fabric_state.specs.Control.{state_after}
use Rattle.fabric_state.proofs.StateLaws.{transfer_reset, transfer_with, transfer_with_other, held_after}
use Rattle.fabric_state.proofs.RequestLaws.{unmapped_held, unmapped_is, unmapped_target}
use Rattle.theorem_history.specs.Claim.{slave_for, Mapped, update}

pub record HoldsLast (st : State) (request : ℕ → Request) : Type 0 where
  pub master : (m : ℕ) → (transfer_at st m).held ≡ true → (request m).master ≡ m
  pub transfer : (m : ℕ) → (transfer_at st m).held ≡ true → transfer_at st m ≡ transfer_of (request m)

-- ---- through the calls

pub last_reset : (b : Board) (request : ℕ → Request) → HoldsLast (state_at_reset b) request
last_reset b request = record {
  master = λ m h. absurd (none m h);
  transfer = λ m h. absurd (none m h);
}
  where
    none : (m : ℕ) → (transfer_at (state_at_reset b) m).held ≡ true → ⊥
    none m h = false≢true (rw (transfer_reset b m) at h)

module _ (st : State) (request : ℕ → Request) (x : HoldsLast st request) where
  pub last_post : (q : Request) → length st.transfers ≡ 8 → q.master < 8
      → HoldsLast (with_transfer st q.master (transfer_of q)) (update request q.master q)
  last_post q l low = record {
    master = λ m h. (go m h (ℕ_discrete m q.master)).0;
    transfer = λ m h. (go m h (ℕ_discrete m q.master)).1;
  }
    where
      then : State
      then = with_transfer st q.master (transfer_of q)

      go : (m : ℕ) → (transfer_at then m).held ≡ true → Dec (m ≡ q.master)
          → ((update request q.master q m).master ≡ m) × (transfer_at then m ≡ transfer_of (update request q.master q m))
      go m h (yes e) = rw (e, eq-eqb q.master q.master refl) (refl, transfer_with st q.master (transfer_of q) l low)
      go m h (no e) =
          let same = transfer_with_other st q.master (transfer_of q) m e in
          let held : (transfer_at st m).held ≡ true = rw same at h in
          rw (ne_eqb m q.master e, same) (x.master m held, x.transfer m held)

  pub last_clock : (b : Board) → HoldsLast (state_after b st) request
  last_clock b = record {
    master = λ m h. x.master m (before m h);
    transfer = λ m h. (held_after b st m h).1 ∙ x.transfer m (before m h);
  }
    where
      before : (m : ℕ) → (transfer_at (state_after b st) m).held ≡ true → (transfer_at st m).held ≡ true
      before m h = rw (held_after b st m h).1 at h

  pub last_take : (log : Log) → HoldsLast (with_log st log) request
  unfolding with_log
  last_take log = record { master = x.master; transfer = x.transfer }

  -- ---- so who holds an unmapped transfer asked for none of the board's slaves

  module _ (b : Board) (m : ℕ) where
    pub last_target : (transfer_at st m).held ≡ true → slave_for b (request m) ≡ target_of b m (transfer_at st m).address
    unfolding slave_for
    last_target h =
        ap (λ (k : ℕ). target_of b k (request m).address) (x.master m h)
        ∙ ap (λ (t : Transfer). target_of b m t.address) (sym (x.transfer m h))

    pub last_mapped : Mapped b (request m) → unmapped_at b st m ≡ false
    last_mapped h = go (unmapped_at b st m) refl
      where
        go : (c : Bool) → unmapped_at b st m ≡ c → unmapped_at b st m ≡ false
        go true e =
            let none = unmapped_target b m (transfer_at st m) (unmapped_is b st m e) in
            absurd (omega (arith, h, last_target (unmapped_held b st m e), none))
        go false e = e
