-- The numbers of the log: its count, its lost mark and its entries, read and put; and a clock's responses (rules 2.4, 4.13, 4.17 to
-- 4.19). A put into the log leaves all other numbers of the state.
-- Assumes nothing.
use mathlib.Core.Path.{◌≡◌, refl, sym, ap, ◌∙◌}
use mathlib.Core.Bool.{cond}
use mathlib.Core.List.{List, [], ◌∷◌}
use mathlib.Core.Logic.{inl, inr}
use Prim.Native.Nat.{ℕ, suc, ◌+◌, ◌-◌, ◌*◌, ◌/◌, ◌%◌, ◌^◌, ◌≤◌, ◌<◌}
use native.Mathlib.Omega.{arith}
use lib.Dec.{ltb, eqb}
use lib.ListN.{length, get_or, set, replicate, length-set, get_or-eq_default}
use lib.Seq.{sets, get_or-set_same}
use borrow.Author.Tests.{le-ltb}
use Rattle.common_laws.specs.Bits.{bit}
use Rattle.common_laws.specs.Lists.{table, gather}
use Rattle.common_laws.proofs.TableLaws.{get_or_table}
use Rattle.common_laws.proofs.FillLaws.{filled, filled_none, filled_next, filled_all, table_put}
use Rattle.common_laws.proofs.SetsLaws.{Agree, two_sets, sets_apart, records_apart}
use Rattle.description_layout.specs.Layout.{marked}
use Rattle.fabric_state.specs.declared.Entry.{Entry}
use Rattle.fabric_state.specs.declared.Log.{Log}
use Rattle.fabric_state.specs.declared.State.{State}
use Rattle.fabric_state.specs.Records.{no_entry, no_log, entry_at}
use Rattle.fabric_state.specs.Logging.{entered, without_oldest, with_log}
use Rattle.fabric_state.proofs.LogLaws.{entered_room, entered_full}
use Rattle.fabric_layout.specs.Layout.{entry_from, log_from, state_in}
use Rattle.fabric_layout.specs.Code.Puts.{with_entry, responses_for}
use Rattle.fabric_layout.proofs.RecordLaws.{entry_same, entry_here, transfers_same, slots_same, lates_same, entries_same}
use Rattle.fabric_layout.proofs.StatePutLaws.{entries_length}

-- a log with the count n; with the lost mark of a number; with other entries
abbrev pub counted : ℕ → Log → Log
counted n x = record { count = n; lost = x.lost; entries = x.entries }

abbrev pub lost_by : ℕ → Log → Log
lost_by n x = record { count = x.count; lost = marked n; entries = x.entries }

abbrev pub entries_of : List Entry → Log → Log
entries_of es x = record { count = x.count; lost = x.lost; entries = es }

pub three_sets : (l : List ℕ) (p a b c : ℕ) → set (set (set l p a) (p + 1) b) (p + 2) c ≡ sets l p (a ∷ b ∷ c ∷ [])
three_sets l p a b c =
    let q : p + 2 ≡ suc (suc p) = omega arith in
    rw (two_sets l p a b, q)

module _ (l : List ℕ) where
  pub count_read : get_or l 128 0 ≡ (state_in l).log.count
  unfolding state_in log_from
  count_read = refl

  -- what the code reads, field by field
  pub entry_read : (i : ℕ) → i < 8
      → ◌≡◌ {A = Entry}
      (record {
        master = get_or l (130 + 3 * i) 0;
        address = get_or l (130 + 3 * i + 1) 0;
        write = marked (get_or l (130 + 3 * i + 2) 0);
      })
      (entry_at (state_in l).log i)
  unfolding state_in log_from entry_from
  entry_read i h = sym (get_or_table (λ k. entry_from l (130 + 3 * k)) 8 no_entry i h)

  -- numbers put behind the latency clocks change the log and nothing else
  log_only : (r : List ℕ) (x : Log) → Agree l r 0 128 → log_from r 128 ≡ x → state_in r ≡ with_log (state_in l) x
  unfolding state_in with_log
  log_only r x e q =
      rw (
        transfers_same l r (λ k low high. e k (omega arith) (omega arith)),
        slots_same l r (λ k low high. e k (omega arith) (omega arith)),
        lates_same l r (λ k low high. e k (omega arith) (omega arith)),
        q,
      )

  module _ (k : length l ≡ 154) where
    -- an entry
    pub entry_put : (i : ℕ) (e : Entry) (write : ℕ) → i < 8 → marked write ≡ e.write
        → state_in (set (set (set l (130 + 3 * i) e.master) (130 + 3 * i + 1) e.address) (130 + 3 * i + 2) write)
        ≡ with_entry (state_in l) i e
    unfolding state_in log_from with_entry
    entry_put i e write h w =
        let p = 130 + 3 * i in
        let vs = e.master ∷ e.address ∷ write ∷ [] in
        let r = sets l p vs in
        let apart = sets_apart vs l p in
        rw (three_sets l p e.master e.address write)
        (log_only r _ (apart 0 128 (inl (omega arith)))
        (rw (
          apart 128 2 (inl (omega arith)) 128 (omega arith) (omega arith),
          apart 128 2 (inl (omega arith)) 129 (omega arith) (omega arith),
          table_put (λ j. entry_from l (130 + 3 * j)) _ 8 i e (entry_here l p e write (rw k (omega arith)) w)
              (λ j d. entry_same l r (130 + 3 * j) (apart (130 + 3 * j) 3 (records_apart 130 3 j i d))),
        )))

    -- an entry that becomes the one behind it
    pub entry_moved_lem : (i : ℕ) → i < 7
        → state_in
        (set (set (set l (130 + 3 * i) (get_or l (130 + 3 * i + 3) 0)) (130 + 3 * i + 1) (get_or l (130 + 3 * i + 3 + 1) 0))
        (130 + 3 * i + 2) (get_or l (130 + 3 * i + 3 + 2) 0))
        ≡ with_entry (state_in l) i (entry_at (state_in l).log (i + 1))
    entry_moved_lem i h =
        let q : 130 + 3 * (i + 1) ≡ 130 + 3 * i + 3 = omega arith in
        let e : Entry = record {
          master = get_or l (130 + 3 * i + 3) 0;
          address = get_or l (130 + 3 * i + 3 + 1) 0;
          write = marked (get_or l (130 + 3 * i + 3 + 2) 0);
        } in
        let read : e ≡ entry_at (state_in l).log (i + 1) = rw q at (entry_read (i + 1) (omega arith)) in
        entry_put i e (get_or l (130 + 3 * i + 3 + 2) 0) (omega arith) refl ∙ ap (with_entry (state_in l) i) read

    -- the count
    pub count_put : (n : ℕ) → state_in (set l 128 n) ≡ with_log (state_in l) (counted n (state_in l).log)
    unfolding state_in log_from
    count_put n =
        let r = set l 128 n in
        let apart = sets_apart (n ∷ []) l 128 in
        log_only r _ (apart 0 128 (inl (omega arith)))
        (rw (
          get_or-set_same l 128 n 0 (rw k (omega arith)),
          apart 129 1 (inr (omega arith)) 129 (omega arith) (omega arith),
          entries_same l r (apart 130 24 (inr (omega arith))),
        ))

    -- the lost mark
    pub lost_put : (n : ℕ) → state_in (set l 129 n) ≡ with_log (state_in l) (lost_by n (state_in l).log)
    unfolding state_in log_from
    lost_put n =
        let r = set l 129 n in
        let apart = sets_apart (n ∷ []) l 129 in
        log_only r _ (apart 0 128 (inl (omega arith)))
        (rw (
          get_or-set_same l 129 n 0 (rw k (omega arith)),
          apart 128 1 (inl (omega arith)) 128 (omega arith) (omega arith),
          entries_same l r (apart 130 24 (inr (omega arith))),
        ))

-- a log put over another
logged_again : (u v : State) (x : Log) (f : Log → Log) → u ≡ with_log v x → with_log u (f u.log) ≡ with_log v (f x)
unfolding with_log
logged_again u v x f e = rw e

-- ---- a transfer enters the log

module _ (l : List ℕ) (k : length l ≡ 154) where
  pub enter_room : (n : ℕ) (e : Entry) {u : State} → n ≡ (state_in l).log.count → n < 8
      → u ≡ with_entry (state_in (set l 128 (n + 1))) n e → u ≡ with_log (state_in l) (entered (state_in l).log e)
  unfolding with_entry
  enter_room n e q h put =
      put
      ∙ logged_again (state_in (set l 128 (n + 1))) (state_in l) _ (λ x. entries_of (set x.entries n e) x) (count_put l k (n + 1))
      ∙ ap (with_log (state_in l)) (rw q (sym (entered_room (state_in l).log e (rw (← q) h))))

  pub enter_full : (n : ℕ) (e : Entry) → n ≡ (state_in l).log.count → 8 ≤ n
      → state_in (set l 129 1) ≡ with_log (state_in l) (entered (state_in l).log e)
  enter_full n e q h = lost_put l k 1 ∙ ap (with_log (state_in l)) (sym (entered_full (state_in l).log e (rw (← q) h)))

-- ---- loops over the entries

-- of the entries of v's log the first i are f's
unfoldable pub log_filled : State → (ℕ → Entry) → ℕ → State
log_filled v f i = with_log v (entries_of (filled f (entry_at v.log) 8 i) v.log)

module _ (v : State) (f : ℕ → Entry) where
  log_begin : length v.log.entries ≡ 8 → v ≡ log_filled v f 0
  unfolding log_filled with_log
  log_begin h =
      ap (λ (es : List Entry). with_log v (entries_of es v.log))
      (filled_none f (entry_at v.log) 8 no_entry v.log.entries h (λ i g. refl))

  log_next : (i : ℕ) (e : Entry) (u w : State) → u ≡ log_filled v f i → w ≡ with_entry u i e → e ≡ f i
      → w ≡ log_filled v f (i + 1)
  unfolding log_filled with_entry with_log
  log_next i e u w p put q =
      put ∙ rw p
      (ap (λ (es : List Entry). with_log v (entries_of es v.log)) (filled_next f (entry_at v.log) 8 i refl q))

  log_end : (i : ℕ) (u : State) → 8 ≤ i → u ≡ log_filled v f i → u ≡ with_log v (entries_of (table f 8) v.log)
  unfolding log_filled
  log_end i u h p =
      p
      ∙ ap (λ (es : List Entry). with_log v (entries_of es v.log)) (filled_all f (entry_at v.log) 8 i h refl)

-- the oldest entry goes: each becomes the one behind it, and the count is one fewer
abbrev pub behind : State → ℕ → Entry
behind v i = entry_at v.log (i + 1)

module _ (l : List ℕ) where
  pub remove_begin : state_in l ≡ log_filled (state_in l) (behind (state_in l)) 0
  remove_begin = log_begin (state_in l) (behind (state_in l)) (entries_length l)

  -- the one behind is still that of before
  still_there : (i : ℕ) → i < 7 → entry_at (log_filled (state_in l) (behind (state_in l)) i).log (i + 1) ≡ behind (state_in l) i
  unfolding log_filled with_log filled
  still_there i h =
      get_or_table (λ k. cond (ltb k i) (behind (state_in l) k) (entry_at (state_in l).log k)) 8 no_entry (i + 1) (omega arith)
      ∙ rw (le-ltb (i + 1) i (omega arith))

  -- no entry stands behind the eighth
  last_none : no_entry ≡ behind (state_in l) 7
  last_none = sym (get_or-eq_default (state_in l).log.entries no_entry (rw (entries_length l) (omega arith)))

  pub remove_next : (i : ℕ) {u w : State} → i < 7 → u ≡ log_filled (state_in l) (behind (state_in l)) i
      → w ≡ with_entry u i (entry_at u.log (i + 1)) → w ≡ log_filled (state_in l) (behind (state_in l)) (i + 1)
  remove_next i {u} {w} h p put =
      log_next (state_in l) (behind (state_in l)) i (entry_at u.log (i + 1)) u w p put
      (ap (λ (y : State). entry_at y.log (i + 1)) p ∙ still_there i h)

pub remove_end : (l : List ℕ) → length l ≡ 154 → (n i : ℕ) {u w : State} → n ≡ (state_in l).log.count → i ≡ 7
    → u ≡ log_filled (state_in (set l 128 (n - 1))) (behind (state_in (set l 128 (n - 1)))) i → w ≡ with_entry u 7 no_entry
    → w ≡ with_log (state_in l) (without_oldest (state_in l).log)
unfolding without_oldest
remove_end l k n i {u} {w} q at p put =
    let r = set l 128 (n - 1) in
    let whole = log_next (state_in r) (behind (state_in r)) 7 no_entry u w (rw at at p) put (last_none r) in
    log_end (state_in r) (behind (state_in r)) 8 w (omega arith) whole
    ∙ logged_again (state_in r) (state_in l) _ (λ x. entries_of (table (λ i. entry_at x (i + 1)) 8) x) (count_put l k (n - 1))
    ∙ rw q

-- no entry stands, and none is lost
pub clear_log_begin : (l : List ℕ) → state_in l ≡ log_filled (state_in l) (λ i. no_entry) 0
clear_log_begin l = log_begin (state_in l) (λ i. no_entry) (entries_length l)

pub clear_log_next : (v : State) (i : ℕ) {u w : State} → u ≡ log_filled v (λ k. no_entry) i → w ≡ with_entry u i no_entry
    → w ≡ log_filled v (λ k. no_entry) (i + 1)
clear_log_next v i {u} {w} p put = log_next v (λ k. no_entry) i no_entry u w p put refl

pub clear_log_end : (l : List ℕ) → length l ≡ 154 → (i : ℕ) {u : State} → 8 ≤ i
    → u ≡ log_filled (state_in (set (set l 128 0) 129 0)) (λ k. no_entry) i → u ≡ with_log (state_in l) no_log
unfolding no_log table gather
clear_log_end l k i {u} h p =
    let c = set l 128 0 in
    let r = set c 129 0 in
    log_end (state_in r) (λ k. no_entry) i u h p
    ∙ logged_again (state_in r) (state_in l) _ (entries_of (table (λ k. no_entry) 8))
    (lost_put c (length-set l 128 0 ∙ k) 0 ∙ logged_again (state_in c) (state_in l) _ (lost_by 0) (count_put l k 0))

-- ---- a clock's responses

-- the response of a master, by the mask
abbrev pub response_by : ℕ → ℕ → ℕ
response_by mask m = cond (bit mask m) 3 0

pub response_here : (mask m : ℕ) {r : ℕ} → r ≡ cond (eqb (mask / 2 ^ m % 2) 1) 3 0 → r ≡ response_by mask m
unfolding bit
response_here mask m e = e

pub responses_begin : (mask : ℕ) (l : List ℕ) → length l ≡ 8 → l ≡ filled (response_by mask) (λ m. get_or l m 0) 8 0
responses_begin mask l h = filled_none (response_by mask) (λ m. get_or l m 0) 8 0 l h (λ i g. refl)

pub responses_end : (mask : ℕ) (g : ℕ → ℕ) (m : ℕ) {l : List ℕ} → 8 ≤ m → l ≡ filled (response_by mask) g 8 m
    → l ≡ responses_for mask
unfolding responses_for
responses_end mask g m h e = filled_all (response_by mask) g 8 m h e

-- a clock without unmapped transfers
pub responses_none : responses_for 0 ≡ replicate 8 0
unfolding responses_for bit table gather
responses_none = refl
