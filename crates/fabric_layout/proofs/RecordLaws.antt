-- Records in an array of numbers, each at its index: what is read after a record's numbers were put. The numbers of a log:
-- `LogPutLaws`.
-- Assumes nothing.
use mathlib.Core.Path.{◌≡◌, sym, ap}
use mathlib.Core.List.{List, [], ◌∷◌}
use mathlib.Core.Logic.{inl, inr}
use Prim.Native.Nat.{ℕ, ◌+◌, ◌*◌, ◌≤◌, ◌<◌}
use native.Mathlib.Nat.{add-zero, zero-add}
use native.Mathlib.Omega.{arith}
use lib.ListN.{length, get_or, set}
use lib.Seq.{sets, get_or-set_same, get_or-set_other}
use Rattle.common_laws.specs.Lists.{table}
use Rattle.common_laws.proofs.TableLaws.{get_or_table}
use Rattle.common_laws.proofs.FillLaws.{table_put}
use Rattle.common_laws.proofs.FrontLaws.{table_same}
use Rattle.common_laws.proofs.SetsLaws.{five, five_sets, six_sets, sets_inside, Agree, five_same, sets_apart, records_apart}
use Rattle.description_layout.specs.Layout.{marked, mark_of}
use Rattle.description_layout.proofs.NumbersLaws.{mark_back}
use Rattle.fabric_transfer.specs.declared.Transfer.{Transfer}
use Rattle.fabric_transfer.specs.Accesses.{no_transfer}
use Rattle.fabric_state.specs.declared.Slot.{Slot}
use Rattle.fabric_state.specs.declared.Entry.{Entry}
use Rattle.fabric_state.specs.declared.Line.{Line}
use Rattle.fabric_state.specs.Records.{no_slot, transfer_at, slot_at, late_at}
use Rattle.fabric_state.specs.Posting.{with_transfer}
use Rattle.fabric_layout.specs.Layout.{transfer_from, slot_from, entry_from, log_from, state_in, line_from, lines_in}
use Rattle.fabric_layout.specs.Code.Puts.{with_slot, with_late}

-- ---- records in arrays that agree where the record stands

module _ (l r : List ℕ) (q : ℕ) where
  transfer_same : Agree l r q 5 → transfer_from r q ≡ transfer_from l q
  unfolding transfer_from
  transfer_same =
      five_same l r q (λ h w a s n. record { held = marked h; write = marked w; address = a; lanes = s; beats = n })

  slot_same : Agree l r q 5 → slot_from r q ≡ slot_from l q
  unfolding slot_from
  slot_same =
      five_same l r q (λ o g s d w. record { owner = o; remaining = g; serving = marked s; done = d; waited = w })

  pub entry_same : Agree l r q 3 → entry_from r q ≡ entry_from l q
  unfolding entry_from
  entry_same e =
      rw (
        e q (omega arith) (omega arith),
        e (q + 1) (omega arith) (omega arith),
        e (q + 2) (omega arith) (omega arith),
      )

  line_same : Agree l r q 6 → line_from r q ≡ line_from l q
  unfolding line_from
  line_same e =
      rw (e (q + 5) (omega arith) (omega arith))
      (five_same l r q
      (λ p o a s n. record { phase = p; owner = o; offset = a; lanes = s; run = n; place = get_or l (q + 5) 0 })
      (λ k low high. e k low (omega arith)))

-- and all records of a kind, where the arrays agree in the numbers of that kind
module _ (l r : List ℕ) where
  pub transfers_same : Agree l r 0 40 → table (λ m. transfer_from r (5 * m)) 8 ≡ table (λ m. transfer_from l (5 * m)) 8
  transfers_same e =
      table_same _ _ 8 (λ m g. transfer_same l r (5 * m) (λ k low high. e k (omega arith) (omega arith)))

  pub slots_same : Agree l r 40 80 → table (λ s. slot_from r (40 + 5 * s)) 16 ≡ table (λ s. slot_from l (40 + 5 * s)) 16
  slots_same e =
      table_same _ _ 16 (λ s g. slot_same l r (40 + 5 * s) (λ k low high. e k (omega arith) (omega arith)))

  pub lates_same : Agree l r 120 8 → table (λ m. get_or r (120 + m) 0) 8 ≡ table (λ m. get_or l (120 + m) 0) 8
  lates_same e = table_same _ _ 8 (λ m g. e (120 + m) (omega arith) (omega arith))

  pub entries_same : Agree l r 130 24 → table (λ i. entry_from r (130 + 3 * i)) 8 ≡ table (λ i. entry_from l (130 + 3 * i)) 8
  entries_same e =
      table_same _ _ 8 (λ i g. entry_same l r (130 + 3 * i) (λ k low high. e k (omega arith) (omega arith)))

  pub log_same : Agree l r 128 26 → log_from r 128 ≡ log_from l 128
  unfolding log_from
  log_same e =
      rw (
        e 128 (omega arith) (omega arith),
        e 129 (omega arith) (omega arith),
        entries_same (λ k low high. e k (omega arith) (omega arith)),
      )

-- a record of the numbers put is the one that was put
module _ (l : List ℕ) (p : ℕ) where
  transfer_here : (t : Transfer) (held write : ℕ) → p + 5 ≤ length l → held ≡ mark_of t.held → write ≡ mark_of t.write
      → transfer_from (sets l p (held ∷ write ∷ t.address ∷ t.lanes ∷ t.beats ∷ [])) p ≡ t
  unfolding transfer_from
  transfer_here t held write h eh ew =
      let f = sets_inside (held ∷ write ∷ t.address ∷ t.lanes ∷ t.beats ∷ []) l p in
      rw (
        f 1 (omega arith) h,
        f 2 (omega arith) h,
        f 3 (omega arith) h,
        f 4 (omega arith) h,
        rw add-zero at (f 0 (omega arith) h),
        mark_back t.held eh,
        mark_back t.write ew,
      )

  slot_here : (x : Slot) (on : ℕ) → p + 5 ≤ length l → on ≡ mark_of x.serving
      → slot_from (sets l p (x.owner ∷ x.remaining ∷ on ∷ x.done ∷ x.waited ∷ [])) p ≡ x
  unfolding slot_from
  slot_here x on h e =
      let f = sets_inside (x.owner ∷ x.remaining ∷ on ∷ x.done ∷ x.waited ∷ []) l p in
      rw (
        f 1 (omega arith) h,
        f 2 (omega arith) h,
        f 3 (omega arith) h,
        f 4 (omega arith) h,
        rw add-zero at (f 0 (omega arith) h),
        mark_back x.serving e,
      )

  pub entry_here : (e : Entry) (write : ℕ) → p + 3 ≤ length l → marked write ≡ e.write
      → entry_from (sets l p (e.master ∷ e.address ∷ write ∷ [])) p ≡ e
  unfolding entry_from
  entry_here e write h w =
      let f = sets_inside (e.master ∷ e.address ∷ write ∷ []) l p in
      rw (
        f 1 (omega arith) h,
        f 2 (omega arith) h,
        rw add-zero at (f 0 (omega arith) h),
        w,
      )

  line_here : (x : Line) → p + 6 ≤ length l
      → line_from (sets l p (x.phase ∷ x.owner ∷ x.offset ∷ x.lanes ∷ x.run ∷ x.place ∷ [])) p ≡ x
  unfolding line_from
  line_here x h =
      let f = sets_inside (x.phase ∷ x.owner ∷ x.offset ∷ x.lanes ∷ x.run ∷ x.place ∷ []) l p in
      rw (
        f 1 (omega arith) h,
        f 2 (omega arith) h,
        f 3 (omega arith) h,
        f 4 (omega arith) h,
        f 5 (omega arith) h,
        rw add-zero at (f 0 (omega arith) h),
      )

-- ---- the state and the lines after a put

module _ (l : List ℕ) where
  pub slot_found : (s : ℕ) (d : Slot) → s < 16 → get_or (state_in l).slots s d ≡ slot_from l (40 + 5 * s)
  unfolding state_in
  slot_found s d h = get_or_table (λ i. slot_from l (40 + 5 * i)) 16 d s h

  pub transfer_found : (m : ℕ) (d : Transfer) → m < 8 → get_or (state_in l).transfers m d ≡ transfer_from l (5 * m)
  unfolding state_in
  transfer_found m d h = get_or_table (λ i. transfer_from l (5 * i)) 8 d m h

  pub late_read : (m : ℕ) → m < 8 → get_or l (120 + m) 0 ≡ late_at (state_in l) m
  unfolding state_in
  late_read m h = sym (get_or_table (λ i. get_or l (120 + i) 0) 8 0 m h)

  -- what the code reads, field by field
  pub slot_read : (s : ℕ) → s < 16
      → ◌≡◌ {A = Slot}
      (record {
        owner = get_or l (40 + 5 * s) 0;
        remaining = get_or l (40 + 5 * s + 1) 0;
        serving = marked (get_or l (40 + 5 * s + 2) 0);
        done = get_or l (40 + 5 * s + 3) 0;
        waited = get_or l (40 + 5 * s + 4) 0;
      })
      (slot_at (state_in l) s)
  unfolding slot_from
  slot_read s h = sym (slot_found s no_slot h)

  pub transfer_read : (m : ℕ) → m < 8
      → ◌≡◌ {A = Transfer}
      (record {
        held = marked (get_or l (5 * m) 0);
        write = marked (get_or l (5 * m + 1) 0);
        address = get_or l (5 * m + 2) 0;
        lanes = get_or l (5 * m + 3) 0;
        beats = get_or l (5 * m + 4) 0;
      })
      (transfer_at (state_in l) m)
  unfolding transfer_from
  transfer_read m h = sym (transfer_found m no_transfer h)

  pub beats_read : (m : ℕ) → m < 8 → get_or l (5 * m + 4) 0 ≡ (transfer_at (state_in l) m).beats
  unfolding transfer_from
  beats_read m h = ap (λ (t : Transfer). t.beats) (sym (transfer_found m no_transfer h))

  module _ (k : length l ≡ 154) where
    pub slot_put : (s : ℕ) (x : Slot) {on : ℕ} → s < 16 → on ≡ mark_of x.serving
        → state_in (five l (40 + 5 * s) x.owner x.remaining on x.done x.waited) ≡ with_slot (state_in l) s x
    unfolding state_in with_slot
    slot_put s x {on} h e =
        let p = 40 + 5 * s in
        let vs = x.owner ∷ x.remaining ∷ on ∷ x.done ∷ x.waited ∷ [] in
        let r = sets l p vs in
        rw (
          five_sets l p x.owner x.remaining on x.done x.waited,
          transfers_same l r (sets_apart vs l p 0 40 (inl (omega arith))),
          lates_same l r (sets_apart vs l p 120 8 (inr (omega arith))),
          log_same l r (sets_apart vs l p 128 26 (inr (omega arith))),
          table_put (λ i. slot_from l (40 + 5 * i)) _ 16 s x (slot_here l p x on (rw k (omega arith)) e)
              (λ i w. slot_same l r (40 + 5 * i) (sets_apart vs l p (40 + 5 * i) 5 (records_apart 40 5 i s w))),
        )

    pub transfer_put_lem : (m : ℕ) (t : Transfer) {held write : ℕ} → m < 8 → held ≡ mark_of t.held → write ≡ mark_of t.write
        → state_in (five l (5 * m) held write t.address t.lanes t.beats) ≡ with_transfer (state_in l) m t
    unfolding state_in with_transfer
    transfer_put_lem m t {held} {write} h eh ew =
        let p = 5 * m in
        let vs = held ∷ write ∷ t.address ∷ t.lanes ∷ t.beats ∷ [] in
        let r = sets l p vs in
        rw (
          five_sets l p held write t.address t.lanes t.beats,
          slots_same l r (sets_apart vs l p 40 80 (inr (omega arith))),
          lates_same l r (sets_apart vs l p 120 8 (inr (omega arith))),
          log_same l r (sets_apart vs l p 128 26 (inr (omega arith))),
          table_put (λ i. transfer_from l (5 * i)) _ 8 m t (transfer_here l p t held write (rw k (omega arith)) eh ew)
              (λ i w. transfer_same l r (5 * i) (sets_apart vs l p (5 * i) 5 (simp zero-add at (records_apart 0 5 i m w)))),
        )

    pub late_put : (m n : ℕ) → m < 8 → state_in (set l (120 + m) n) ≡ with_late (state_in l) m n
    unfolding state_in with_late
    late_put m n h =
        let p = 120 + m in
        let vs = n ∷ [] in
        let r = set l p n in
        rw (
          transfers_same l r (sets_apart vs l p 0 40 (inl (omega arith))),
          slots_same l r (sets_apart vs l p 40 80 (inl (omega arith))),
          log_same l r (sets_apart vs l p 128 26 (inr (omega arith))),
          table_put (λ i. get_or l (120 + i) 0) _ 8 m n (get_or-set_same l p n 0 (rw k (omega arith)))
              (λ i w. get_or-set_other l p (120 + i) n 0 (λ e. w (omega arith))),
        )

  pub line_put : length l ≡ 96 → (s : ℕ) (x : Line) → s < 16
      → lines_in (set (five l (6 * s) x.phase x.owner x.offset x.lanes x.run) (6 * s + 5) x.place)
      ≡ set (lines_in l) s x
  unfolding lines_in
  line_put k s x h =
      let p = 6 * s in
      let vs = x.phase ∷ x.owner ∷ x.offset ∷ x.lanes ∷ x.run ∷ x.place ∷ [] in
      rw (six_sets l p x.phase x.owner x.offset x.lanes x.run x.place)
      (table_put (λ i. line_from l (6 * i)) _ 16 s x (line_here l p x (rw k (omega arith)))
      (λ i w. line_same l (sets l p vs) (6 * i) (sets_apart vs l p (6 * i) 6 (simp zero-add at (records_apart 0 6 i s w)))))
