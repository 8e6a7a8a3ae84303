-- A log as the list of the entries that stand (rule 6.13): the empty one, one entry more, and one without its oldest entry.
-- Assumes nothing.
use mathlib.Core.Path.{◌≡◌, refl, sym, ap, ◌∙◌}
use mathlib.Core.Bool.{Bool, true, false, cond}
use mathlib.Core.List.{List, [], ◌∷◌, ◌++◌}
use mathlib.Core.Logic.{⊎_elim}
use Prim.Native.Nat.{ℕ, ◌+◌, ◌-◌, ◌≤◌, ◌<◌}
use native.Mathlib.Decide.{ℕ_discrete}
use native.Mathlib.Omega.{arith}
use lib.Dec.{ltb, eqb}
use lib.ListN.{length, get_or, set, drop, replicate, length-append, length-drop, length-replicate}
use lib.ListN.{get_or-append, get_or-eq_default}
use lib.Seq.{get_or_at, get_or-drop}
use borrow.Author.Tests.{eq-eqb, ne_eqb, ltb-true, ltb-false}
use Rattle.common_laws.specs.Lists.{table}
use Rattle.common_laws.proofs.TableLaws.{get_or_table, get_or_table_past, get_or_replicate_all}
use Rattle.common_laws.proofs.FrontLaws.{table_same}
use Rattle.common_laws.proofs.FillLaws.{table_is, set_table}
use Rattle.fabric_transfer.proofs.MoveLaws.{less_or}
use Rattle.fabric_state.specs.declared.Entry.{Entry}
use Rattle.fabric_state.specs.Records.{no_entry, no_log, entry_at}
use Rattle.fabric_state.specs.Logging.{entered, without_oldest}
use Rattle.fabric_state.proofs.LogLaws.{entered_room, entered_full}
use Rattle.theorem_history.specs.Claim.{Logged, logged_at, log_entry, log_of}
use Rattle.theorem_history.proofs.Histories.CallCases.{logged_take}

pub log_none : no_log ≡ log_of logged_at
unfolding no_log log_of logged_at
log_none = λ i. record { count = 0; lost = false; entries = blank i }
  where
    blank : replicate 8 no_entry ≡ table (λ i. get_or [] i no_entry) 8
    blank =
        table_is (λ i. get_or [] i no_entry) 8 no_entry (replicate 8 no_entry) (length-replicate 8 no_entry)
        (λ k h. get_or_replicate_all 8 k no_entry)

pub log_count : (k : Logged) → (log_of k).count ≡ length k.entries
unfolding log_of
log_count k = refl

-- at every index it has the entry that stands there, or zeros
pub log_entry_lem : (k : Logged) → length k.entries ≤ 8 → (i : ℕ) → entry_at (log_of k) i ≡ get_or k.entries i no_entry
unfolding log_of
log_entry_lem k few i =
    ⊎_elim (λ (h : i < 8). get_or_table (λ j. get_or k.entries j no_entry) 8 no_entry i h)
    (λ (h : 8 ≤ i).
    get_or_table_past (λ j. get_or k.entries j no_entry) 8 no_entry i h
    ∙ sym (get_or-eq_default k.entries no_entry {n = i} (omega arith)))
    (less_or i 8)

-- an entry behind those that stand
behind : (es : List Entry) (e : Entry) (i : ℕ)
    → cond (eqb i (length es)) e (get_or es i no_entry) ≡ get_or (es ++ (e ∷ [])) i no_entry
behind es e i = go (ℕ_discrete i (length es))
  where
    long : length (es ++ (e ∷ [])) ≡ length es + 1
    long = length-append es (e ∷ [])

    go : Dec (i ≡ length es) → cond (eqb i (length es)) e (get_or es i no_entry) ≡ get_or (es ++ (e ∷ [])) i no_entry
    go (yes q) = rw (eq-eqb i (length es) q) (sym (get_or_at es e [] no_entry i (sym q)))
    go (no q) =
        rw (ne_eqb i (length es) q)
        (⊎_elim (λ (h : i < length es). sym (get_or-append es (e ∷ []) no_entry i h))
        (λ (h : length es ≤ i).
        get_or-eq_default es no_entry {n = i} h
        ∙ sym (get_or-eq_default (es ++ (e ∷ [])) no_entry {n = i} (omega (arith, long, q))))
        (less_or i (length es)))

pub log_entered : (k : Logged) (e : Entry) → entered (log_of k) e ≡ log_of (log_entry e k)
unfolding log_of log_entry
log_entered k e = go (ltb (length es) 8) refl
  where
    es : List Entry
    es = k.entries

    old : ℕ → Entry
    old i = get_or es i no_entry

    new : ℕ → Entry
    new i = get_or (es ++ (e ∷ [])) i no_entry

    put : set (table old 8) (length es) e ≡ table new 8
    put = set_table old 8 (length es) e ∙ table_same _ new 8 (λ i h. behind es e i)

    room : ltb (length es) 8 ≡ true
        → entered (log_of k) e ≡ record { count = length (es ++ (e ∷ [])); lost = k.lost; entries = table new 8 }
    room q =
        entered_room (log_of k) e (ltb-true (length es) 8 q)
        ∙ (λ i. record { count = sym (length-append es (e ∷ [])) i; lost = k.lost; entries = put i })

    go : (c : Bool) → ltb (length es) 8 ≡ c → entered (log_of k) e ≡ log_of (log_entry e k)
    go true q = room q ∙ rw q
    go false q = entered_full (log_of k) e (ltb-false (length es) 8 q) ∙ rw q

pub log_taken : (k : Logged) → length k.entries ≤ 8 → without_oldest (log_of k) ≡ log_of (logged_take k)
unfolding without_oldest log_of
log_taken k few = λ i. record { count = fewer i; lost = k.lost; entries = down i }
  where
    es : List Entry
    es = k.entries

    fewer : length es - 1 ≡ length (drop 1 es)
    fewer = sym (length-drop 1 es)

    down : table (λ i. entry_at (log_of k) (i + 1)) 8 ≡ table (λ i. get_or (drop 1 es) i no_entry) 8
    down =
        table_same _ _ 8
        (λ i h.
        let one : i + 1 ≡ 1 + i = omega arith in
        log_entry_lem k few (i + 1) ∙ ap (λ (j : ℕ). get_or es j no_entry) one ∙ sym (get_or-drop 1 es i no_entry))
