-- A state's numbers, spelled out: an array whose marks are 0 or 1 is what its state is spelled as; so is what a reset leaves. And the log
-- without its oldest entry, number for number.
-- Assumes nothing.
use mathlib.Core.Path.{◌≡◌, refl, sym, ap, ◌∙◌}
use mathlib.Core.Bool.{Bool, true, false, cond}
use mathlib.Core.List.{List, [], ◌∷◌, ◌++◌}
use mathlib.Core.Logic.{◌⊎◌, inl, inr, ⊎_elim}
use Prim.Native.Nat.{ℕ, zero, suc, ◌+◌, ◌-◌, ◌*◌, ◌≤◌, ◌<◌}
use native.Mathlib.Nat.{add-zero}
use native.Mathlib.Decide.{ℕ_discrete}
use native.Mathlib.Omega.{arith}
use lib.Dec.{ltb, eqb}
use lib.ListN.{length, get_or, set, get_or-eq_default}
use lib.Seq.{sets, length-sets, get_or-set_same, get_or-set_other}
use borrow.Author.Tests.{ltb-true, ltb-false, eqb-true, not-false, eq-eqb, ne_eqb}
use Rattle.common_laws.specs.Lists.{gather, table}
use Rattle.common_laws.proofs.TableLaws.{get_or_table, get_or_replicate_all}
use Rattle.common_laws.proofs.FillLaws.{table_is}
use Rattle.common_laws.proofs.FrontLaws.{table_same}
use Rattle.common_laws.proofs.PartLaws.{part, part_whole, part_join, part_gather}
use Rattle.common_laws.proofs.SetsLaws.{sets_outside, sets_inside}
use Rattle.description_layout.specs.Layout.{marked, mark_of}
use Rattle.fabric_transfer.specs.declared.Transfer.{Transfer}
use Rattle.fabric_transfer.specs.Accesses.{no_transfer}
use Rattle.fabric_state.specs.declared.Slot.{Slot}
use Rattle.fabric_state.specs.declared.Entry.{Entry}
use Rattle.fabric_state.specs.declared.State.{State}
use Rattle.fabric_state.specs.Records.{no_slot, no_entry, no_log, transfer_at, slot_at, late_at, entry_at}
use Rattle.fabric_state.specs.Resetting.{reset_state}
use Rattle.fabric_layout.specs.Layout.{transfer_from, slot_from, entry_from, log_from, state_in}
use Rattle.fabric_layout.specs.Numbers.{numbers_of_transfer, numbers_of_slot, numbers_of_entry, numbers_of_state, oldest_removed}
use Rattle.fabric_layout.specs.Code.Puts.{with_entry, entry_moved}
use Rattle.fabric_layout.proofs.RecordLaws.{transfer_found, slot_found, late_read}
use Rattle.fabric_layout.proofs.LogPutLaws.{three_sets, entry_moved_lem}

-- ---- a state spelled out

-- the marks of an array are 0 or 1
record Binary (l : List ℕ) : Type 0 where
  held : (m : ℕ) → m < 8 → get_or l (5 * m) 0 ≤ 1
  write : (m : ℕ) → m < 8 → get_or l (5 * m + 1) 0 ≤ 1
  serving : (s : ℕ) → s < 16 → get_or l (40 + 5 * s + 2) 0 ≤ 1
  lost : get_or l 129 0 ≤ 1
  entries : (i : ℕ) → i < 8 → get_or l (130 + 3 * i + 2) 0 ≤ 1

mark_self : (n : ℕ) → n ≤ 1 → mark_of (marked n) ≡ n
unfolding mark_of
mark_self zero h = refl
mark_self (suc zero) h = refl
mark_self (suc (suc n)) h = absurd (omega arith)

module _ (l : List ℕ) where
  transfer_spelled : (p : ℕ) → get_or l p 0 ≤ 1 → get_or l (p + 1) 0 ≤ 1 → numbers_of_transfer (transfer_from l p) ≡ part l p 5
  unfolding transfer_from part table gather
  transfer_spelled p h w = rw (mark_self (get_or l p 0) h, mark_self (get_or l (p + 1) 0) w, add-zero p)

  slot_spelled : (p : ℕ) → get_or l (p + 2) 0 ≤ 1 → numbers_of_slot (slot_from l p) ≡ part l p 5
  unfolding slot_from part table gather
  slot_spelled p h = rw (mark_self (get_or l (p + 2) 0) h, add-zero p)

  entry_spelled : (p : ℕ) → get_or l (p + 2) 0 ≤ 1 → numbers_of_entry (entry_from l p) ≡ part l p 3
  unfolding entry_from part table gather
  entry_spelled p h = rw (mark_self (get_or l (p + 2) 0) h, add-zero p)

  entry_found : (i : ℕ) → i < 8 → entry_at (state_in l).log i ≡ entry_from l (130 + 3 * i)
  unfolding state_in log_from
  entry_found i h = get_or_table (λ k. entry_from l (130 + 3 * k)) 8 no_entry i h

  lates_spelled : table (late_at (state_in l)) 8 ≡ part l 120 8
  unfolding part
  lates_spelled = table_same _ _ 8 (λ m h. sym (late_read l m h))

  log_spelled : get_or l 129 0 ≤ 1 → (state_in l).log.count ∷ mark_of (state_in l).log.lost ∷ [] ≡ part l 128 2
  unfolding state_in log_from part table gather
  log_spelled h = rw (mark_self (get_or l 129 0) h)

  state_spelled : length l ≡ 154 → Binary l → l ≡ numbers_of_state (state_in l)
  unfolding numbers_of_state
  state_spelled k b =
      let transfers : gather (λ m. numbers_of_transfer (transfer_at (state_in l) m)) 8 ≡ part l 0 40 =
      part_gather l 0 5 _ 8 (λ m h.
      ap numbers_of_transfer (transfer_found l m no_transfer h)
      ∙ rw (zero_plus (5 * m)) (transfer_spelled (5 * m) (b.held m h) (b.write m h))) in
      let slots : gather (λ s. numbers_of_slot (slot_at (state_in l) s)) 16 ≡ part l 40 80 =
      part_gather l 40 5 _ 16 (λ s h.
      ap numbers_of_slot (slot_found l s no_slot h) ∙ slot_spelled (40 + 5 * s) (b.serving s h)) in
      let entries : gather (λ i. numbers_of_entry (entry_at (state_in l).log i)) 8 ≡ part l 130 24 =
      part_gather l 130 3 _ 8 (λ i h. ap numbers_of_entry (entry_found i h) ∙ entry_spelled (130 + 3 * i) (b.entries i h)) in
      let first : part l 0 40 ++ part l 40 80 ≡ part l 0 120 = part_join l 0 40 80 in
      let second : part l 0 120 ++ part l 120 8 ≡ part l 0 128 = part_join l 0 120 8 in
      let third : part l 0 128 ++ part l 128 2 ≡ part l 0 130 = part_join l 0 128 2 in
      let all : part l 0 130 ++ part l 130 24 ≡ part l 0 154 = part_join l 0 130 24 in
      rw (transfers, slots, lates_spelled, log_spelled b.lost, entries, first, second, third, all) (part_whole l 154 k)
    where
      zero_plus : (n : ℕ) → 0 + n ≡ n
      zero_plus n = omega arith

-- ---- a reset

unmarked : (n : ℕ) → marked n ≡ false → n ≤ 1
unmarked n e = let z = eqb-true n 0 (not-false (eqb n 0) e) in omega arith

module _ (l : List ℕ) (owner n : ℕ) (e : state_in l ≡ reset_state owner n) where
  reset_transfer : (m : ℕ) → m < 8 → transfer_from l (5 * m) ≡ no_transfer
  unfolding reset_state
  reset_transfer m h =
      sym (transfer_found l m no_transfer h)
      ∙ ap (λ (x : State). transfer_at x m) e ∙ get_or_replicate_all 8 m no_transfer

  reset_serving : (s : ℕ) → s < 16 → (slot_from l (40 + 5 * s)).serving ≡ false
  unfolding reset_state
  reset_serving s h =
      ap (λ (x : Slot). x.serving)
      (sym (slot_found l s no_slot h) ∙ ap (λ (x : State). slot_at x s) e ∙ get_or_table _ 16 no_slot s h) ∙ go (ltb s n)
    where
      go : (c : Bool)
          → (cond {A = Slot} c (record { owner = owner; remaining = 0; serving = false; done = 0; waited = 0 }) no_slot).serving ≡ false
      go true = refl
      go false = refl

  reset_entry : (i : ℕ) → i < 8 → entry_from l (130 + 3 * i) ≡ no_entry
  unfolding reset_state no_log
  reset_entry i h =
      sym (entry_found l i h) ∙ ap (λ (x : State). entry_at x.log i) e ∙ get_or_replicate_all 8 i no_entry

  reset_lost : marked (get_or l 129 0) ≡ false
  unfolding state_in log_from reset_state no_log
  reset_lost = ap (λ (x : State). x.log.lost) e

  reset_binary : Binary l
  unfolding transfer_from slot_from entry_from
  reset_binary = record {
    held = λ m h. unmarked (get_or l (5 * m) 0) (ap (λ (t : Transfer). t.held) (reset_transfer m h));
    write = λ m h. unmarked (get_or l (5 * m + 1) 0) (ap (λ (t : Transfer). t.write) (reset_transfer m h));
    serving = λ s h. unmarked (get_or l (40 + 5 * s + 2) 0) (reset_serving s h);
    lost = unmarked (get_or l 129 0) reset_lost;
    entries = λ i h. unmarked (get_or l (130 + 3 * i + 2) 0) (ap (λ (x : Entry). x.write) (reset_entry i h));
  }

  pub reset_spelled : length l ≡ 154 → (state_in l ≡ reset_state owner n) × (l ≡ numbers_of_state (reset_state owner n))
  reset_spelled k = (e, state_spelled l k reset_binary ∙ ap numbers_of_state e)

-- ---- the log without its oldest entry

-- an entry that becomes the next one
module _ (l : List ℕ) (i : ℕ) where
  abbrev stored : List ℕ
  stored =
      set (set (set l (130 + 3 * i) (get_or l (130 + 3 * i + 3) 0)) (130 + 3 * i + 1) (get_or l (130 + 3 * i + 3 + 1) 0))
      (130 + 3 * i + 2) (get_or l (130 + 3 * i + 3 + 2) 0)

  pub moved_leaves : length l ≡ 154 → i < 7
      → (state_in stored ≡ with_entry (state_in l) i (entry_at (state_in l).log (i + 1))) × (stored ≡ entry_moved l i)
  unfolding entry_moved
  moved_leaves k h = (
    entry_moved_lem l k i h,
    three_sets l (130 + 3 * i) (get_or l (130 + 3 * i + 3) 0) (get_or l (130 + 3 * i + 3 + 1) 0) (get_or l (130 + 3 * i + 3 + 2) 0),
  )

-- the first i entries of l are moved in u
pub record Moved (l u : List ℕ) (i : ℕ) : Type 0 where
  pub sized : length u ≡ 154
  pub stays : (j : ℕ) → (j < 130) ⊎ (130 + 3 * i ≤ j) → get_or u j 0 ≡ get_or l j 0
  pub moves : (j : ℕ) → 130 ≤ j → j < 130 + 3 * i → get_or u j 0 ≡ get_or l (j + 3) 0

pub moved_begin : (l : List ℕ) → length l ≡ 154 → Moved l l 0
moved_begin l k = record { sized = k; stays = λ j h. refl; moves = λ j low high. absurd (omega arith) }

-- three numbers from index p on, where those from p + 3 on stand in l
three_moved : (l vs : List ℕ) (p d : ℕ) → d < 3 → get_or vs 0 0 ≡ get_or l (p + 3) 0 → get_or vs 1 0 ≡ get_or l (p + 3 + 1) 0
    → get_or vs 2 0 ≡ get_or l (p + 3 + 2) 0 → get_or vs d 0 ≡ get_or l (p + d + 3) 0
three_moved l vs p zero h a b c = let q : p + 0 + 3 ≡ p + 3 = omega arith in rw q a
three_moved l vs p (suc zero) h a b c = let q : p + 1 + 3 ≡ p + 3 + 1 = omega arith in rw q b
three_moved l vs p (suc (suc zero)) h a b c = let q : p + 2 + 3 ≡ p + 3 + 2 = omega arith in rw q c
three_moved l vs p (suc (suc (suc d))) h a b c = absurd (omega arith)

pub moved_next : (l : List ℕ) (i : ℕ) {u w : List ℕ} → i < 7 → Moved l u i → w ≡ entry_moved u i → Moved l w (i + 1)
unfolding entry_moved
moved_next l i {u} {w} h m e =
    let p = 130 + 3 * i in
    let vs : List ℕ = get_or u (p + 3) 0 ∷ get_or u (p + 3 + 1) 0 ∷ get_or u (p + 3 + 2) 0 ∷ [] in
    rw e (record {
      sized = length-sets u p vs ∙ m.sized;
      stays = λ j g.
          sets_outside vs u p j (⊎_elim (λ x. inl (omega arith)) (λ x. inr (omega arith)) g)
          ∙ m.stays j (⊎_elim (λ x. inl x) (λ x. inr (omega arith)) g);
      moves = λ j low high. go p vs refl refl j low high (ltb j p) refl;
    })
  where
    go : (p : ℕ) (vs : List ℕ) → p ≡ 130 + 3 * i
        → vs ≡ get_or u (130 + 3 * i + 3) 0 ∷ get_or u (130 + 3 * i + 3 + 1) 0 ∷ get_or u (130 + 3 * i + 3 + 2) 0 ∷ []
        → (j : ℕ) → 130 ≤ j → j < 130 + 3 * (i + 1) → (c : Bool) → ltb j p ≡ c → get_or (sets u p vs) j 0 ≡ get_or l (j + 3) 0
    go p vs ep ev j low high true t =
        let below = ltb-true j p t in
        sets_outside vs u p j (inl below) ∙ m.moves j low (omega arith)
    go p vs ep ev j low high false t =
        let above = ltb-false j p t in
        let q : p + (j - p) ≡ j = omega arith in
        let three : length vs ≡ 3 = ap length ev in
        let inside : get_or (sets u p vs) (p + (j - p)) 0 ≡ get_or vs (j - p) 0 =
        sets_inside vs u p (j - p) (omega arith) (rw m.sized (omega arith)) in
        let z : get_or vs (j - p) 0 ≡ get_or l (p + (j - p) + 3) 0 =
        three_moved l vs p (j - p) (omega arith)
        (ap (λ (x : List ℕ). get_or x 0 0) ev ∙ rw ep (m.stays (130 + 3 * i + 3) (inr (omega arith))))
        (ap (λ (x : List ℕ). get_or x 1 0) ev ∙ rw ep (m.stays (130 + 3 * i + 3 + 1) (inr (omega arith))))
        (ap (λ (x : List ℕ). get_or x 2 0) ev ∙ rw ep (m.stays (130 + 3 * i + 3 + 2) (inr (omega arith)))) in
        rw q at (inside ∙ z)

-- all seven, and the last one is 0
module _ (l : List ℕ) (k : length l ≡ 154) (n : ℕ) (q : n ≡ (state_in l).log.count) where
  counted : n ≡ get_or l 128 0
  unfolding state_in log_from
  counted = q

  module _ {u w : List ℕ} (m : Moved (set l 128 (n - 1)) u 7) (e : w ≡ sets u 151 (numbers_of_entry no_entry)) where
    abbrev zeros : List ℕ
    zeros = numbers_of_entry no_entry

    -- in front of the last entry, and in it
    front_at : (j : ℕ) → j < 151 → get_or w j 0 ≡ get_or u j 0
    front_at j h = rw e (sets_outside zeros u 151 j (inl h))

    zero_at : (d : ℕ) → d < 3 → get_or zeros d 0 ≡ 0
    unfolding mark_of
    zero_at zero h = refl
    zero_at (suc zero) h = refl
    zero_at (suc (suc zero)) h = refl
    zero_at (suc (suc (suc d))) h = absurd (omega arith)

    last_at : (j : ℕ) → 151 ≤ j → j < 154 → get_or w j 0 ≡ 0
    last_at j low high =
        let q : 151 + (j - 151) ≡ j = omega arith in
        rw e (rw q at (sets_inside zeros u 151 (j - 151) (omega arith) (rw m.sized (omega arith)))
        ∙ zero_at (j - 151) (omega arith))

    other_at : (j : ℕ) → (j ≡ 128 → ⊥) → get_or (set l 128 (n - 1)) j 0 ≡ get_or l j 0
    other_at j d = get_or-set_other l 128 j (n - 1) 0 d

    pub removed_is : w ≡ oldest_removed l
    unfolding oldest_removed
    removed_is =
        table_is _ 154 0 w (rw e (length-sets u 151 zeros ∙ m.sized)) (λ j h. go j h (ℕ_discrete j 128) (ltb j 130) refl (ltb j 151) refl)
      where
        go : (j : ℕ) → j < 154 → Dec (j ≡ 128) → (c : Bool) → ltb j 130 ≡ c → (d : Bool) → ltb j 151 ≡ d
            → get_or w j 0
            ≡ cond (eqb j 128) (get_or l 128 0 - 1) (cond (ltb j 130) (get_or l j 0) (get_or l (j + 3) 0))
        go j h (yes y) c s d t =
            rw (eq-eqb j 128 y, y)
            (front_at 128 (omega arith) ∙ m.stays 128 (inl (omega arith))
            ∙ get_or-set_same l 128 (n - 1) 0 (rw k (omega arith)) ∙ ap (λ (x : ℕ). x - 1) counted)
        go j h (no y) true s d t =
            let low = ltb-true j 130 s in
            rw (ne_eqb j 128 y, s) (front_at j (omega arith) ∙ m.stays j (inl low) ∙ other_at j y)
        go j h (no y) false s true t =
            let low = ltb-false j 130 s in
            let high = ltb-true j 151 t in
            rw (ne_eqb j 128 y, s)
            (front_at j high ∙ m.moves j low (omega arith) ∙ other_at (j + 3) (λ z. absurd (omega arith)))
        go j h (no y) false s false t =
            let low = ltb-false j 151 t in
            rw (ne_eqb j 128 y, s) (last_at j low h ∙ sym (get_or-eq_default l 0 (rw k (omega arith))))
