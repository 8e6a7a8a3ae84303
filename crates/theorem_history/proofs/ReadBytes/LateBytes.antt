-- The bytes of a read behind its last access: they stay until the read is finished (rules 4.16, 6.9), as no slave serves its
-- master and its master posts nothing.
-- Assumes nothing.
use mathlib.Core.Path.{◌≡◌, refl, sym, ap, ◌∙◌}
use mathlib.Core.Bool.{Bool, true, false}
use mathlib.Core.List.{List, [], ◌∷◌}
use mathlib.Core.Logic.{⊎_elim, ◌≢◌}
use Prim.Native.Nat.{ℕ, zero, suc, ◌+◌, ◌≤◌, ◌<◌}
use native.Mathlib.Omega.{arith}
use lib.ListN.{length}
use borrow.Author.Tests.{ne_eqb}
use Rattle.description_board.specs.declared.Board.{Board}
use Rattle.description_board.specs.Legal.{Legal}
use Rattle.fabric_transfer.specs.declared.Transfer.{Transfer}
use Rattle.fabric_transfer.specs.Bytes.{Store, part_of}
use Rattle.fabric_transfer.proofs.MoveLaws.{less_or}
use Rattle.fabric_transfer.proofs.Ranges.{agree_refl, agree_sym, front, front_same}
use Rattle.fabric_state.specs.declared.State.{State}
use Rattle.fabric_state.specs.Records.{late_at}
use Rattle.fabric_state.specs.Soundness.{unmapped_at}
use Rattle.fabric_state.specs.Control.{slot_after_grant, lines_of}
use Rattle.fabric_state.specs.Carrying.{carries_out, carried, carried_by, cleared_by, store_after}
use Rattle.fabric_state.proofs.Sound.{Sound}
use Rattle.fabric_state.proofs.SoundLaws.{late_mapped}
use Rattle.theorem_history.specs.Claim.{Reference, bytes_in, stepped, seen, seen_all}
use Rattle.theorem_history.proofs.ReadBytes.TransferBytes.{access_at, access_lengths, access_buffer, Lies, Asked, Done}
use Rattle.theorem_history.proofs.ReadBytes.TransferBytes.{bytes_in_lem}
use Rattle.theorem_history.proofs.ReadBytes.SlaveBytes.{Wants, SameMaster}
use Rattle.theorem_history.proofs.ReadBytes.ActiveTransfers.{active_at, lies, owner_free, owner_wants, some_left}
use Rattle.theorem_history.proofs.ReadBytes.ActiveTransfers.{carries_serving, carried_access_lem, carried_none}
use Rattle.theorem_history.proofs.ReadBytes.ClearedBytes.{cleared_length_is, cleared_master}
use Rattle.theorem_history.proofs.ReadBytes.FirstCycles.{line_at, seen_silent, seen_serving, silent_past}

-- the last request of master m is carried out: if it is a read, the front of the master's part is what its step gave
pub record Brought (b : Board) (d : Store) (r : Reference) (m : ℕ) : Type 0 where
  pub few : bytes_in b (r.request m) ≤ 512
  pub reads : (r.request m).write ≡ false → front (bytes_in b (r.request m)) (part_of m) d.buffer ≡ r.given m

-- and that is so of every master that passes latency clocks
unfoldable pub Latent : Board → State → Store → Reference → Type 0
Latent b st d r = (m : ℕ) → late_at st m ≢ 0 → Brought b d r m

-- all accesses of its transfer t at slave k are carried out
pub brought_done : (b : Board) (k m : ℕ) (t : Transfer) (lies : Lies b m k t) (d : Store) (r : Reference) → Asked b d r m t
    → Wants b m k t → Done b d r k m t → Brought b d r m
brought_done b k m t lies d r a w done =
    let size = bytes_in_lem b k m t lies d r a w.target in
    record {
      few = rw size lies.few;
      reads = λ e. rw size (done.reads (sym (ap (λ (u : Transfer). u.write) a.transfer) ∙ e));
    }

-- what happens elsewhere does not matter
pub brought_kept : (b : Board) (d e : Store) (r s : Reference) (m : ℕ) → length d.buffer ≡ length e.buffer
    → SameMaster d e r s m → Brought b d r m → Brought b e s m
brought_kept b d e r s m l h c =
    let n = bytes_in b (r.request m) in
    let few = c.few in
    record {
      few = rw (← h.request) few;
      reads = rw (← h.request, ← h.given)
          (λ w.
          sym (front_same n (part_of m) (part_of m) (part_of m + 512) l h.part (omega arith) (omega arith)) ∙ c.reads w);
    }

-- ---- a clock in which no slave serves the master, and it holds no unmapped transfer

module _
    (b : Board) (legal : Legal b) (st : State) (sound : Sound b st) (m : ℕ) (mapped : unmapped_at b st m ≡ false)
    (unserved : (k : ℕ) → k < b.slave_count → (slot_after_grant b st k).serving ≡ true → (slot_after_grant b st k).owner ≢ m)
  where
    brought_stepped : (o : ℕ) → o ≢ m → (d : Store) (r : Reference) → Brought b d r m → Brought b d (stepped b o r) m
    unfolding stepped
    brought_stepped o h d r =
        brought_kept b d d r (stepped b o r) m refl
        (record {
          part = agree_refl (part_of m) (part_of m + 512) d.buffer;
          request = refl;
          waiting = rw (ne_eqb m o (λ e. h (sym e)));
          given = rw (ne_eqb m o (λ e. h (sym e)));
        })

    brought_line : (k : ℕ) (d : Store) (r : Reference) → Brought b d r m → Brought b d (seen b (line_at b st k) r) m
    brought_line k d r c =
        ⊎_elim
        (λ (a : k < b.slave_count).
        go a (slot_after_grant b st k).serving refl (r.waiting (slot_after_grant b st k).owner) refl)
        (λ (a : b.slave_count ≤ k). rw (silent_past b legal st sound k a r) c)
        (less_or k b.slave_count)
      where
        go : k < b.slave_count → (p : Bool) → (slot_after_grant b st k).serving ≡ p → (q : Bool)
            → r.waiting (slot_after_grant b st k).owner ≡ q → Brought b d (seen b (line_at b st k) r) m
        go a false off q e = rw (seen_silent b legal st sound k a r off) c
        go a true on false e = rw (seen_serving b legal st sound k a r on, e) c
        go a true on true e =
            rw (seen_serving b legal st sound k a r on, e)
            (brought_stepped (slot_after_grant b st k).owner (unserved k a on) d r c)

    brought_lines : (ss : List ℕ) (d : Store) (r : Reference) → Brought b d r m → Brought b d (seen_all b ss (lines_of b st) r) m
    unfolding seen_all
    brought_lines [] d r c = c
    brought_lines (s ∷ ss) d r c = brought_lines ss d (seen b (line_at b st s) r) (brought_line s d r c)

    brought_access : (k : ℕ) → k < b.slave_count → (d : Store) (r : Reference) → Brought b d r m
        → Brought b (carried b st k d) r m
    brought_access k a d r c = go (carries_out b st k) refl
      where
        o : ℕ
        o = (slot_after_grant b st k).owner

        go : (p : Bool) → carries_out b st k ≡ p → Brought b (carried b st k d) r m
        go false e = rw (carried_none b legal st sound k a d e) c
        go true e =
            let on = carries_serving b legal st sound k a e in
            let t = active_at st o in
            let n = (slot_after_grant b st k).done in
            let w = owner_wants b legal st sound k a on in
            let x = lies b legal st sound o k w in
            rw (carried_access_lem b legal st sound k a d e)
            (brought_kept b d (access_at b k o t n d) r r m (sym (access_lengths b k o t n d).1)
            (record {
              part = agree_sym (access_buffer b k o t x n d (some_left b legal st sound k a on) m (unserved k a on));
              request = refl;
              waiting = refl;
              given = refl;
            })
            c)

    brought_accesses : (n : ℕ) → n ≤ b.slave_count → (d : Store) (r : Reference) → Brought b d r m
        → Brought b (carried_by b st n d) r m
    unfolding carried_by
    brought_accesses zero h d r c = c
    brought_accesses (suc n) h d r c =
        brought_access n (omega arith) (carried_by b st n d) r (brought_accesses n (omega arith) d r c)

    brought_clock : (ss : List ℕ) (d : Store) (r : Reference) → Brought b d r m
        → Brought b (store_after b st d) (seen_all b ss (lines_of b st) r) m
    unfolding store_after
    brought_clock ss d r c =
        let told = seen_all b ss (lines_of b st) r in
        let e = carried_by b st b.slave_count d in
        brought_kept b e (cleared_by b st 8 e) told told m (cleared_length_is b legal st sound e told)
        (cleared_master b legal st sound e told m mapped)
        (brought_accesses b.slave_count (omega arith) d told (brought_lines ss d r c))

-- as one that passes latency clocks requests no slave, and holds no unmapped transfer
pub brought_late : (b : Board) (legal : Legal b) (st : State) (sound : Sound b st) (m : ℕ) → late_at st m ≢ 0
    → (ss : List ℕ) (d : Store) (r : Reference) → Brought b d r m
    → Brought b (store_after b st d) (seen_all b ss (lines_of b st) r) m
brought_late b legal st sound m late =
    brought_clock b legal st sound m (late_mapped b st legal sound m late)
    (λ k a on e. late (ap (λ (j : ℕ). late_at st j) (sym e) ∙ owner_free b legal st sound k a on))
