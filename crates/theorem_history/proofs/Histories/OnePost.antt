-- A post that is taken: what is true of its request, and what it leaves as it was, namely every slot, the transfers of the other
-- masters, and the clocks left at every slave.
-- Assumes nothing.
use mathlib.Core.Path.{◌≡◌, refl, sym, ap, ◌∙◌}
use mathlib.Core.Bool.{Bool, true, false, true≢false}
use mathlib.Core.Logic.{◌≢◌}
use Prim.Native.Nat.{ℕ, ◌<◌}
use lib.ListN.{length}
use Rattle.description_board.specs.declared.Board.{Board}
use Rattle.description_board.specs.Records.{master_at, slave_at}
use Rattle.fabric_transfer.specs.declared.Transfer.{Transfer}
use Rattle.fabric_transfer.specs.Accesses.{latency_of}
use Rattle.fabric_state.specs.declared.Slot.{Slot}
use Rattle.fabric_state.specs.declared.State.{State}
use Rattle.fabric_state.specs.Records.{transfer_at, slot_at}
use Rattle.fabric_state.specs.Posting.{Request, transfer_of, with_transfer}
use Rattle.fabric_state.specs.Soundness.{requests}
use Rattle.fabric_calls.specs.Calls.{World, post_refusal}
use Rattle.fabric_calls.proofs.PostLaws as posts
use Rattle.fabric_state.proofs.Sound.{Sound}
use Rattle.fabric_state.proofs.CycleLaws.{left_of, left_resting}
use Rattle.fabric_state.proofs.StateLaws.{slot_with, late_with, transfer_with_other}
use Rattle.fabric_state.proofs.RequestLaws.{requests_held}
use Rattle.fabric_state.proofs.SoundLaws.{requests_same}
use Rattle.theorem_history.proofs.OneClock.PairFigures.{pot_of}
use Rattle.theorem_history.proofs.OneClock.AfterGrant.{left_in, left_at}
use Rattle.theorem_history.proofs.OneClock.UsableGrants.{ahead_in, usable_in, usable_at, ahead_serving, ahead_resting}
use Rattle.theorem_history.proofs.OneClock.SlaveClock.{pot_at}
use Rattle.theorem_history.proofs.Histories.CallCases.{TakesPost}

-- what is true of a request whose post is taken
abbrev pub Taken : Board → State → Request → Type 0
Taken b st q = posts.Taken b st q.master (transfer_of q) (length q.words)

pub post_taken_lem : (b : Board) (w : World) (q : Request) → TakesPost b w q → Taken b w.state q
unfolding post_refusal
post_taken_lem b w q e =
    (posts.taken b q.master (transfer_of q) w.state (length w.store.buffer) (length q.words) e).2

-- who requests is no master that holds nothing
pub asks_other : (b : Board) (st : State) (s i m : ℕ) → requests b st s i ≡ true → (transfer_at st m).held ≡ false → i ≢ m
asks_other b st s i m asks free e =
    true≢false (sym (requests_held b st s i asks) ∙ ap (λ (j : ℕ). (transfer_at st j).held) e ∙ free)

-- a transfer t, put in for a master m that holds nothing, changes none in service
module _ (b : Board) (st : State) (sound : Sound b st) (m : ℕ) (t : Transfer) (free : (transfer_at st m).held ≡ false) where
  pub left_with : (s : ℕ) → s < b.slave_count → left_at b (with_transfer st m t) s ≡ left_at b st s
  left_with s hs = ap (left_in b (with_transfer st m t) s) (slot_with st m t s) ∙ go (slot_at st s).serving refl
    where
      o : ℕ
      o = (slot_at st s).owner

      go : (c : Bool) → (slot_at st s).serving ≡ c → left_in b (with_transfer st m t) s (slot_at st s) ≡ left_at b st s
      go true e =
          ap (λ (y : Transfer). left_of (master_at b o) (slave_at b s) y (slot_at st s))
          (transfer_with_other st m t o (asks_other b st s o m (sound.serving s hs e).asks free))
      go false e =
          left_resting (master_at b o) (slave_at b s) _ (slot_at st s) e
          ∙ sym (left_resting (master_at b o) (slave_at b s) _ (slot_at st s) e)

  -- nor the latency before an owner, nor the grants that it can use
  pub ahead_with : (s : ℕ) → s < b.slave_count
      → ahead_in b (with_transfer st m t) s (slot_at (with_transfer st m t) s) ≡ ahead_in b st s (slot_at st s)
  ahead_with s hs = ap (ahead_in b (with_transfer st m t) s) (slot_with st m t s) ∙ ahead (slot_at st s).serving refl
    where
      o : ℕ
      o = (slot_at st s).owner

      ahead : (c : Bool) → (slot_at st s).serving ≡ c
          → ahead_in b (with_transfer st m t) s (slot_at st s) ≡ ahead_in b st s (slot_at st s)
      ahead true e =
          ahead_serving b (with_transfer st m t) s (slot_at st s) e
          ∙ ap (latency_of (slave_at b s))
          (transfer_with_other st m t o (asks_other b st s o m (sound.serving s hs e).asks free))
          ∙ sym (ahead_serving b st s (slot_at st s) e)
      ahead false e =
          ahead_resting b (with_transfer st m t) s (slot_at st s) e
          ∙ late_with st m t o
          ∙ sym (ahead_resting b st s (slot_at st s) e)

  pub usable_with : (s : ℕ) → s < b.slave_count → usable_at b (with_transfer st m t) s ≡ usable_at b st s
  unfolding usable_in
  usable_with s hs = rw (ahead_with s hs, slot_with st m t s)

  -- so whoever waits has as much to wait for
  pub pot_with : (s j : ℕ) → s < b.slave_count → pot_at b (with_transfer st m t) s j ≡ pot_at b st s j
  pot_with s j hs =
      ap (λ (y : Slot). pot_of b s j y.owner (usable_at b (with_transfer st m t) s) (left_at b (with_transfer st m t) s))
      (slot_with st m t s)
      ∙ ap (λ (r : ℕ). pot_of b s j (slot_at st s).owner r (left_at b (with_transfer st m t) s)) (usable_with s hs)
      ∙ ap (pot_of b s j (slot_at st s).owner (usable_at b st s)) (left_with s hs)

  -- and keeps its transfer
  pub kept_with : (s i : ℕ) → requests b st s i ≡ true → transfer_at (with_transfer st m t) i ≡ transfer_at st i
  kept_with s i asks = transfer_with_other st m t i (asks_other b st s i m asks free)

  pub asks_with : (s i : ℕ) → requests b st s i ≡ true → requests b (with_transfer st m t) s i ≡ true
  asks_with s i asks = requests_same b st (with_transfer st m t) i s (kept_with s i asks) (late_with st m t i) ∙ asks
