-- Marks after a put: each is what it was, or 0 or 1 (rule 2.4).
-- Assumes nothing.
use mathlib.Core.Path.{◌≡◌, refl, ap, ap₂, ◌∙◌}
use mathlib.Core.Bool.{Bool, true, false}
use mathlib.Core.List.{List, [], ◌∷◌}
use mathlib.Core.Logic.{inl, inr, ⊎_elim}
use Prim.Native.Nat.{ℕ, ◌+◌, ◌*◌, ◌≤◌, ◌<◌}
use native.Mathlib.Decide.{ℕ_discrete}
use native.Mathlib.Omega.{arith}
use lib.ListN.{length, get_or, set, length-set}
use lib.Seq.{sets, get_or-set_same}
use Rattle.common_laws.proofs.SetsLaws.{five, five_sets, sets_outside, sets_inside, records_apart}
use Rattle.description_layout.specs.Layout.{mark_of}
use Rattle.description_layout.proofs.NumbersLaws.{mark_back}
use Rattle.fabric_transfer.specs.declared.Transfer.{Transfer}
use Rattle.fabric_state.specs.declared.Slot.{Slot}
use Rattle.fabric_state.specs.declared.Entry.{Entry}
use Rattle.fabric_state.specs.Logging.{entered, with_log}
use Rattle.fabric_layout.specs.Layout.{state_in}
use Rattle.fabric_layout.specs.Numbers.{numbers_of_transfer, numbers_of_slot, numbers_of_entry, transfer_put, MarkKept, Marks}
use Rattle.fabric_layout.specs.Code.Puts.{with_slot, with_late, with_entry, Leaves, TransferPut}
use Rattle.fabric_layout.proofs.RecordLaws.{transfer_put_lem, slot_put, late_put}
use Rattle.fabric_layout.proofs.LogPutLaws.{three_sets, entry_put, enter_room, enter_full}

pub mark_small : (b : Bool) → mark_of b ≤ 1
unfolding mark_of
mark_small true = omega arith
mark_small false = omega arith

-- nothing put, and one put after another
pub marks_same : (l : List ℕ) → Marks l l
marks_same l = record {
  held = λ m h. inl refl;
  write = λ m h. inl refl;
  serving = λ s h. inl refl;
  lost = inl refl;
  entries = λ i h. inl refl;
}

kept_then : (l m r : List ℕ) (i : ℕ) → MarkKept l m i → MarkKept m r i → MarkKept l r i
kept_then l m r i f g = ⊎_elim (λ e. ⊎_elim (λ d. inl (e ∙ d)) (λ h. inr (rw e h)) f) (λ h. inr h) g

pub marks_then : {l m r : List ℕ} → Marks l m → Marks m r → Marks l r
marks_then {l} {m} {r} f g = record {
  held = λ k h. kept_then l m r (5 * k) (f.held k h) (g.held k h);
  write = λ k h. kept_then l m r (5 * k + 1) (f.write k h) (g.write k h);
  serving = λ s h. kept_then l m r (40 + 5 * s + 2) (f.serving s h) (g.serving s h);
  lost = kept_then l m r 129 f.lost g.lost;
  entries = λ i h. kept_then l m r (130 + 3 * i + 2) (f.entries i h) (g.entries i h);
}

module _ (l : List ℕ) where
  -- records of w numbers each from index o on, of which number j is a mark: record s is put, mark k is that of record i
  one_kept : (vs : List ℕ) (o w s i j p k : ℕ) → length vs ≡ w → j < w → o + w * s + w ≤ length l → get_or vs j 0 ≤ 1
      → p ≡ o + w * s → k ≡ o + w * i + j → MarkKept l (sets l p vs) k
  one_kept vs o w s i j p k v h room small ep ek = go (ℕ_discrete i s)
    where
      go : Dec (i ≡ s) → MarkKept l (sets l p vs) k
      go (yes e) =
          let q : k ≡ p + j = rw (ek, ep, e) in
          inr (rw (q, sets_inside vs l p j (omega arith) (omega arith)) small)
      go (no d) =
          inl
          (sets_outside vs l p k
          (⊎_elim (λ x. inl (omega arith)) (λ x. inr (omega arith)) (records_apart o w i s d)))

  module _ (k : length l ≡ 154) where
    pub transfer_marks : (m : ℕ) (t : Transfer) → m < 8 → Marks l (transfer_put l m t)
    unfolding transfer_put
    transfer_marks m t h =
        let vs = numbers_of_transfer t in
        let room : 0 + 5 * m + 5 ≤ length l = rw k (omega arith) in
        record {
          held = λ i g. one_kept vs 0 5 m i 0 (5 * m) (5 * i) refl (omega arith) room (mark_small t.held) (omega arith) (omega arith);
          write = λ i g.
              one_kept vs 0 5 m i 1 (5 * m) (5 * i + 1) refl (omega arith) room (mark_small t.write) (omega arith) (omega arith);
          serving = λ s g. inl (sets_outside vs l (5 * m) (40 + 5 * s + 2) (inr (omega arith)));
          lost = inl (sets_outside vs l (5 * m) 129 (inr (omega arith)));
          entries = λ i g. inl (sets_outside vs l (5 * m) (130 + 3 * i + 2) (inr (omega arith)));
        }

    pub slot_marks : (s : ℕ) (x : Slot) → s < 16 → Marks l (sets l (40 + 5 * s) (numbers_of_slot x))
    slot_marks s x h =
        let vs = numbers_of_slot x in
        let p = 40 + 5 * s in
        record {
          held = λ m g. inl (sets_outside vs l p (5 * m) (inl (omega arith)));
          write = λ m g. inl (sets_outside vs l p (5 * m + 1) (inl (omega arith)));
          serving = λ i g.
              one_kept vs 40 5 s i 2 p (40 + 5 * i + 2) refl (omega arith) (rw k (omega arith)) (mark_small x.serving) refl refl;
          lost = inl (sets_outside vs l p 129 (inr (omega arith)));
          entries = λ i g. inl (sets_outside vs l p (130 + 3 * i + 2) (inr (omega arith)));
        }

    pub entry_marks : (i : ℕ) (e : Entry) → i < 8 → Marks l (sets l (130 + 3 * i) (numbers_of_entry e))
    entry_marks i e h =
        let vs = numbers_of_entry e in
        let p = 130 + 3 * i in
        record {
          held = λ m g. inl (sets_outside vs l p (5 * m) (inl (omega arith)));
          write = λ m g. inl (sets_outside vs l p (5 * m + 1) (inl (omega arith)));
          serving = λ s g. inl (sets_outside vs l p (40 + 5 * s + 2) (inl (omega arith)));
          lost = inl (sets_outside vs l p 129 (inl (omega arith)));
          entries = λ j g.
              one_kept vs 130 3 i j 2 p (130 + 3 * j + 2) refl (omega arith) (rw k (omega arith)) (mark_small e.write) refl refl;
        }

    -- the numbers between the slots and the lost mark are no marks: latency clocks, the log's count
    between_marks : (p n : ℕ) → 120 ≤ p → p < 129 → Marks l (set l p n)
    between_marks p n low high =
        let vs = n ∷ [] in
        record {
          held = λ m g. inl (sets_outside vs l p (5 * m) (inl (omega arith)));
          write = λ m g. inl (sets_outside vs l p (5 * m + 1) (inl (omega arith)));
          serving = λ s g. inl (sets_outside vs l p (40 + 5 * s + 2) (inl (omega arith)));
          lost = inl (sets_outside vs l p 129 (inr (omega arith)));
          entries = λ i g. inl (sets_outside vs l p (130 + 3 * i + 2) (inr (omega arith)));
        }

    -- the lost mark set
    pub lost_marks : Marks l (set l 129 1)
    lost_marks =
        let vs : List ℕ = 1 ∷ [] in
        record {
          held = λ i g. inl (sets_outside vs l 129 (5 * i) (inl (omega arith)));
          write = λ i g. inl (sets_outside vs l 129 (5 * i + 1) (inl (omega arith)));
          serving = λ s g. inl (sets_outside vs l 129 (40 + 5 * s + 2) (inl (omega arith)));
          lost = inr (rw (get_or-set_same l 129 1 0 (rw k (omega arith))) (omega arith));
          entries = λ i g. inl (sets_outside vs l 129 (130 + 3 * i + 2) (inr (omega arith)));
        }

-- ---- what the code's stores leave

marks_as : {l r q : List ℕ} → r ≡ q → Marks l q → Marks l r
marks_as {l} e f = rw e f

module _ (l : List ℕ) (k : length l ≡ 154) where
  pub transfer_leaves : (m : ℕ) (t : Transfer) {held write : ℕ} → m < 8 → held ≡ mark_of t.held → write ≡ mark_of t.write
      → TransferPut l (five l (5 * m) held write t.address t.lanes t.beats) m t
  unfolding transfer_put
  transfer_leaves m t {held} {write} h eh ew =
      let n = five_sets l (5 * m) held write t.address t.lanes t.beats
      ∙ ap₂ (λ (a b : ℕ). sets l (5 * m) (a ∷ b ∷ t.address ∷ t.lanes ∷ t.beats ∷ [])) eh ew in
      record { state = transfer_put_lem l k m t h eh ew; marks = marks_as n (transfer_marks l k m t h); numbers = n }

  pub slot_leaves : (s : ℕ) (x : Slot) {on : ℕ} → s < 16 → on ≡ mark_of x.serving
      → Leaves l (five l (40 + 5 * s) x.owner x.remaining on x.done x.waited) (with_slot (state_in l) s x)
  slot_leaves s x {on} h e =
      let p = 40 + 5 * s in
      let n = five_sets l p x.owner x.remaining on x.done x.waited
      ∙ ap (λ (a : ℕ). sets l p (x.owner ∷ x.remaining ∷ a ∷ x.done ∷ x.waited ∷ [])) e in
      record { state = slot_put l k s x h e; marks = marks_as n (slot_marks l k s x h) }

  pub late_leaves : (m n : ℕ) → m < 8 → Leaves l (set l (120 + m) n) (with_late (state_in l) m n)
  late_leaves m n h = record { state = late_put l k m n h; marks = between_marks l k (120 + m) n (omega arith) (omega arith) }

  pub entry_leaves : (i : ℕ) (e : Entry) {write : ℕ} → i < 8 → write ≡ mark_of e.write
      → let r = set (set (set l (130 + 3 * i) e.master) (130 + 3 * i + 1) e.address) (130 + 3 * i + 2) write in
      (state_in r ≡ with_entry (state_in l) i e) × (r ≡ sets l (130 + 3 * i) (numbers_of_entry e))
  entry_leaves i e {write} h q = (
    entry_put l k i e write h (mark_back e.write q),
    three_sets l (130 + 3 * i) e.master e.address write
        ∙ ap (λ (a : ℕ). sets l (130 + 3 * i) (e.master ∷ e.address ∷ a ∷ [])) q,
  )

  -- a transfer enters the log: there is room, or there is none
  pub room_leaves : (n : ℕ) (e : Entry) {r : List ℕ} → n ≡ (state_in l).log.count → n < 8
      → (state_in r ≡ with_entry (state_in (set l 128 (n + 1))) n e)
      × (r ≡ sets (set l 128 (n + 1)) (130 + 3 * n) (numbers_of_entry e))
      → Leaves l r (with_log (state_in l) (entered (state_in l).log e))
  room_leaves n e q h put =
      let c = set l 128 (n + 1) in
      record {
        state = enter_room l k n e q h put.0;
        marks = marks_then (between_marks l k 128 (n + 1) (omega arith) (omega arith))
            (marks_as put.1 (entry_marks c (length-set l 128 (n + 1) ∙ k) n e h));
      }

  pub full_leaves : (n : ℕ) (e : Entry) → n ≡ (state_in l).log.count → 8 ≤ n
      → Leaves l (set l 129 1) (with_log (state_in l) (entered (state_in l).log e))
  full_leaves n e q h = record { state = enter_full l k n e q h; marks = lost_marks l k }
