-- The checks of a state by its parts, as the code makes them, are the definition's.
-- Assumes nothing.
use mathlib.Core.Path.{◌≡◌, refl, sym, ap, ◌∙◌}
use mathlib.Core.Bool.{Bool, true, false, cond, ◌&&◌, ◌||◌, true≢false}
use mathlib.Core.List.{List}
use Prim.Native.Nat.{ℕ, ◌+◌, ◌≤◌, ◌<◌}
use native.Mathlib.Numerals.{add-one}
use native.Mathlib.Omega.{arith}
use lib.Dec.{ltb, leb, eqb}
use lib.ListN.{length, get_or, set}
use borrow.Author.Tests.{lt-ltb, le-ltb, eqb-true, eqb-false, ne_eqb}
use Rattle.std.proofs.Common.{Result, Ok, Err, is_ok}
use Rattle.common_laws.specs.Lists.{member, every}
use Rattle.common_laws.proofs.TableLaws.{every_at}
use Rattle.common_laws.proofs.Tests.{both}
use Rattle.common_laws.proofs.FillLaws.{filled, filled_next, filled_all}
use Rattle.common_numbers.specs.Refusals.{refusal_number, refusal_in}
use Rattle.common_numbers.specs.declared.Refusal.{Refusal}
use Rattle.common_numbers.proofs.RefusalLaws.{refusal_not_zero}
use Rattle.description_board.specs.declared.Master.{Master}
use Rattle.description_board.specs.Records.{Slave}
use Rattle.description_board.specs.declared.Board.{Board}
use Rattle.description_board.specs.Records.{master_at, slave_at, shares_at}
use Rattle.description_board.specs.Rules.{widths}
use Rattle.description_board.specs.Items.{board_refusal}
use Rattle.description_board.proofs.Accepted.{accepted_legal}
use Rattle.fabric_transfer.specs.declared.Transfer.{Transfer}
use Rattle.fabric_transfer.specs.Accesses.{accesses, wait_of}
use Rattle.fabric_transfer.specs.Decoding.{target_of}
use Rattle.fabric_transfer.specs.Code.Numbers.{Posted}
use Rattle.fabric_state.specs.declared.Slot.{Slot}
use Rattle.fabric_state.specs.declared.State.{State}
use Rattle.fabric_state.specs.Records.{transfer_at, slot_at, late_at}
use Rattle.fabric_state.specs.Posting.{transfer_refusal}
use Rattle.fabric_state.specs.Soundness.{holds_for, requests, latency_at, sound_held, sound_transfer, sound_owner, sound_remaining}
use Rattle.fabric_state.specs.Soundness.{sound_service, sound_rest, sound_slot_by, sound_slot}
use Rattle.fabric_state.proofs.RequestLaws.{holds_held, holds_selects, accepted_at, accepted_posted}
use Rattle.fabric_state.proofs.SoundLaws.{held_facts}
use Rattle.fabric_check.specs.Code.Targets.{held_target, target_in, targets_in}
use Rattle.fabric_check.specs.Code.Checks.{Held, Decoded, Preconditions}
use Rattle.fabric_check.proofs.TargetLaws.{target_holds}

-- a loop over the numbers below n: one more passes, one fails
module _ (test : ℕ → Bool) where
  pub every_next : (i : ℕ) → every test i ≡ true → test i ≡ true → every test (i + 1) ≡ true
  unfolding every
  every_next i e f = rw (add-one, e) f

  pub every_not : (n i : ℕ) → i < n → test i ≡ false → every test n ≡ false
  every_not n i h e = go (every test n) refl
    where
      go : (c : Bool) → every test n ≡ c → every test n ≡ false
      go true q = absurd (true≢false (sym (every_at test n q i h) ∙ e))
      go false q = q

-- the branch of a test that was made
module _ {X : Type 0} {c : Bool} (x y : X) where
  cond_taken : c ≡ true → cond c x y ≡ x
  cond_taken e = rw e

  cond_left : c ≡ false → cond c x y ≡ y
  cond_left e = rw e

-- a board that is refused: there is nothing to show of the state
pub board_refused : (b : Board) (st : State) (e : Refusal) (ts : List ℕ) → refusal_number e ≡ board_refusal b
    → Preconditions b st (Err e) ts
board_refused b st e ts h = record {
  number = h;
  sound = λ z. refusal_not_zero e (h ∙ z);
  targets = λ z. refusal_not_zero e (h ∙ z);
}

-- an answer that tells no more than a refusal is not refused where its number is 0
ok_number : (r : Result Unit Refusal) → is_ok r ≡ eqb (refusal_in r) 0
ok_number (Ok x) = refl
ok_number (Err e) = sym (ne_eqb (refusal_number e) 0 (refusal_not_zero e))

-- a transfer that a master of the board holds, that another holds, and that is not held: what is answered, and what is put
module _ (b : Board) (m : ℕ) (t : Transfer) (late : ℕ) (before : List ℕ) where
  abbrev ours : Bool
  ours = ltb m b.master_count

  abbrev passes : Bool
  passes = eqb (transfer_refusal b m t) 0 && leb late (latency_at b m t)

  fits : (r : Result Unit Refusal) {ok : Bool} {latency : ℕ} → refusal_in r ≡ transfer_refusal b m t → ok ≡ is_ok r
      → latency ≡ latency_at b m t → (ok && leb late latency) ≡ passes
  fits r f o g = rw (o, ok_number r, f, g)

  pub held_ours : {masters target latency : ℕ} {ok : Bool} (r : Result Unit Refusal) → t.held ≡ true → masters ≡ b.master_count → m < masters
      → target ≡ target_of b m t.address → refusal_in r ≡ transfer_refusal b m t → ok ≡ is_ok r
      → latency ≡ latency_at b m t
      → Held b m t late (ok && leb late latency) before (set before m target)
  unfolding sound_held held_target
  held_ours r on em h e f o g = record {
    sound =
        fits r f o g
        ∙ sym (ap (λ (c : Bool). c && passes) (lt-ltb m b.master_count (rw (← em) h)))
        ∙ sym (cond_taken (ours && passes) (eqb late 0) on);
    target = λ q. ap (set before m) (e ∙ sym (cond_taken (target_of b m t.address) b.slave_count on));
  }

  pub held_stranger : {masters : ℕ} → t.held ≡ true → masters ≡ b.master_count → masters ≤ m → (after : List ℕ)
      → Held b m t late false before after
  unfolding sound_held
  held_stranger on em h after = record {
    sound =
        sym (ap (λ (c : Bool). c && passes) (le-ltb m b.master_count (rw (← em) h)))
        ∙ sym (cond_taken (ours && passes) (eqb late 0) on);
    target = λ q. absurd (true≢false (sym q));
  }

  pub held_none : {count : ℕ} → t.held ≡ false → count ≡ b.slave_count
      → Held b m t late (eqb late 0) before (set before m count)
  unfolding sound_held held_target
  held_none off e = record {
    sound = sym (cond_left (ours && passes) (eqb late 0) off);
    target = λ q. ap (set before m) (e ∙ sym (cond_left (target_of b m t.address) b.slave_count off));
  }

-- a transfer that was read: its rule, and its slave put behind those of the transfers before it
module _ (b : Board) (st : State) (m : ℕ) {t : Transfer} (et : t ≡ transfer_at st m) where
  pub read_sound : {late : ℕ} → late ≡ late_at st m → sound_held b m t late ≡ sound_transfer b st m
  unfolding sound_transfer
  read_sound el = rw (et, el)

  read_target : held_target b m t ≡ target_in b st.transfers m
  unfolding target_in
  read_target = rw et

  pub targets_next : (g : ℕ → ℕ) {late : ℕ} {r : Bool} {before after : List ℕ} → Held b m t late r before after → r ≡ true
      → before ≡ filled (target_in b st.transfers) g 8 m → after ≡ filled (target_in b st.transfers) g 8 (m + 1)
  targets_next g held on e = held.target on ∙ filled_next (target_in b st.transfers) g 8 m e read_target

pub targets_all : (b : Board) (ts : List Transfer) (g : ℕ → ℕ) (m : ℕ) {out : List ℕ} → 8 ≤ m
    → out ≡ filled (target_in b ts) g 8 m → out ≡ targets_in b ts
unfolding targets_in
targets_all b ts g m h e = filled_all (target_in b ts) g 8 m h e

-- grants that remain: none, or fewer than the shares
grants : (remaining share : ℕ)
    → (eqb remaining 0 || ltb remaining share) ≡ cond (eqb share 0) (eqb remaining 0) (ltb remaining share)
grants remaining share = go (eqb share 0) refl (eqb remaining 0) refl
  where
    go : (c : Bool) → eqb share 0 ≡ c → (d : Bool) → eqb remaining 0 ≡ d
        → (d || ltb remaining share) ≡ cond c d (ltb remaining share)
    go true p true q = refl
    go true p false q = let z = eqb-true share 0 p in le-ltb remaining share (omega arith)
    go false p true q =
        let z = eqb-true remaining 0 q in
        let some = eqb-false share 0 p in
        sym (lt-ltb remaining share (omega arith))
    go false p false q = refl

module _ (slot : Slot) (share : ℕ) (here : Bool) (ma : Master) (sl : Slave) (t : Transfer) where
  pub slot_serving : (eqb slot.remaining 0 || ltb slot.remaining share) ≡ true → slot.serving ≡ true
      → here ≡ true
      → sound_slot_by share here ma sl t slot ≡ (ltb slot.done (accesses ma sl t) && leb slot.waited (wait_of sl t))
  unfolding sound_slot_by sound_remaining sound_service
  slot_serving e on h = rw (← grants slot.remaining share, e, on, h)

  pub slot_elsewhere : (eqb slot.remaining 0 || ltb slot.remaining share) ≡ true → slot.serving ≡ true
      → here ≡ false → sound_slot_by share here ma sl t slot ≡ false
  unfolding sound_slot_by sound_remaining sound_service
  slot_elsewhere e on h = rw (← grants slot.remaining share, e, on, h)

  pub slot_resting : (eqb slot.remaining 0 || ltb slot.remaining share) ≡ true → slot.serving ≡ false
      → sound_slot_by share here ma sl t slot ≡ (eqb slot.done 0 && eqb slot.waited 0)
  unfolding sound_slot_by sound_remaining sound_rest
  slot_resting e off = rw (← grants slot.remaining share, e, off)

  pub slot_over : (eqb slot.remaining 0 || ltb slot.remaining share) ≡ false → sound_slot_by share here ma sl t slot ≡ false
  unfolding sound_slot_by sound_remaining
  slot_over e = rw (← grants slot.remaining share, e)

module _ (b : Board) (st : State) (s : ℕ) {slot : Slot} {masters : ℕ} (eslot : slot ≡ slot_at st s)
    (em : masters ≡ b.master_count) where
  pub slot_stranger : masters ≤ slot.owner → sound_slot b st s ≡ false
  unfolding sound_slot sound_owner
  slot_stranger h =
      let far : b.master_count ≤ (slot_at st s).owner = rw (← em, ← eslot) h in
      rw (le-ltb (slot_at st s).owner b.master_count far)

  -- the slot's owner is a master of the board; the code has read its shares, the two, its transfer and that transfer's target
  pub slot_parts : (targets : List ℕ) → Decoded b st targets → length st.transfers ≡ 8 → s < b.slave_count
      → slot.owner < masters
      → {share late : ℕ} {ma : Master} {sl : Slave} {t : Transfer} → share ≡ shares_at b slot.owner s
      → ma ≡ master_at b slot.owner → sl ≡ slave_at b s → t ≡ transfer_at st slot.owner → late ≡ late_at st slot.owner
      → sound_slot_by share (eqb late 0 && eqb (get_or targets slot.owner 0) s) ma sl t slot ≡ sound_slot b st s
  unfolding sound_slot sound_owner requests
  slot_parts targets decoded full here h e f g k n = rw (e, f, g, k, n, eslot) (whole (rw (← em, ← eslot) h))
    where
      whole : (slot_at st s).owner < b.master_count
          → sound_slot_by (shares_at b (slot_at st s).owner s)
          (eqb (late_at st (slot_at st s).owner) 0 && eqb (get_or targets (slot_at st s).owner 0) s)
          (master_at b (slot_at st s).owner) (slave_at b s) (transfer_at st (slot_at st s).owner) (slot_at st s)
          ≡ sound_slot b st s
      whole l =
          let small : (slot_at st s).owner < 8 = omega (arith, (accepted_legal b decoded.board).few_masters) in
          rw (
            lt-ltb (slot_at st s).owner b.master_count l,
            decoded.targets,
            target_holds b decoded.board st full s here (slot_at st s).owner small,
          )

-- the width of a master of an accepted board
pub legal_width : (b : Board) → board_refusal b ≡ 0 → (m : ℕ) {masters : ℕ} → masters ≡ b.master_count → m < masters
    → {ma : Master} → ma ≡ master_at b m → member ma.width widths ≡ true
legal_width b ok m e h f = rw f ((accepted_legal b ok).master m (rw (← e) h)).width

-- where a slot's owner requests its slave, its transfer has lanes that a post may have
pub slot_posted : (b : Board) (st : State) (targets : List ℕ) → Decoded b st targets → length st.transfers ≡ 8
    → (s m late : ℕ) → s < b.slave_count → m < b.master_count → (eqb late 0 && eqb (get_or targets m 0) s) ≡ true
    → {ma : Master} {sl : Slave} {t : Transfer} → ma ≡ master_at b m → sl ≡ slave_at b s → t ≡ transfer_at st m → Posted ma sl t
unfolding sound_transfer
slot_posted b st targets decoded full s m late h known q e f g =
    let legal = accepted_legal b decoded.board in
    let small : m < 8 = omega (arith, legal.few_masters) in
    let here = (both (eqb late 0) (eqb (get_or targets m 0) s) q).1 in
    let holds : holds_for b st s m ≡ true
    = sym (target_holds b decoded.board st full s h m small) ∙ rw (← decoded.targets) here in
    let sound = held_facts b m (transfer_at st m) (late_at st m) (every_at (sound_transfer b st) 8 decoded.transfers m small) in
    let free = (sound.holds (holds_held b st s m holds)).1 in
    let ok = accepted_at b legal m (transfer_at st m) free s (holds_selects b st s m holds) in
    rw (e, f, g) (accepted_posted b legal m s (transfer_at st m) known ok)
