-- Which slave a transfer is for: on an accepted board one, or none where it is unmapped, and what is true of a transfer that post takes.
-- Assumes nothing.
use mathlib.Core.Path.{◌≡◌, refl, ◌∙◌}
use mathlib.Core.Bool.{Bool, true, false, cond, and-false, true≢false}
use mathlib.Core.Logic.{◌≢◌}
use Prim.Native.Nat.{ℕ, ◌+◌, ◌*◌, ◌%◌, ◌≤◌, ◌<◌}
use native.Mathlib.Omega.{arith}
use lib.Dec.{ltb, eqb}
use borrow.Author.Tests.{ltb-false, eqb-true, eqb-false, ne_eqb, not-false}
use Rattle.common_laws.proofs.Arithmetic.{product_le}
use Rattle.common_laws.proofs.ListLaws.{member_within}
use Rattle.common_laws.proofs.Tests.{both, neither, passed}
use Rattle.description_board.specs.declared.Board.{Board}
use Rattle.description_board.specs.Records.{master_at, slave_at, shares_at}
use Rattle.description_board.specs.Rules.{widths, bursts}
use Rattle.description_board.specs.Legal.{Legal}
use Rattle.fabric_transfer.specs.declared.Transfer.{Transfer}
use Rattle.fabric_lanes.specs.Lanes.{post_lanes}
use Rattle.fabric_transfer.specs.Decoding.{selects, target_of}
use Rattle.fabric_transfer.specs.Accesses.{accesses, latency_of}
use Rattle.fabric_transfer.proofs.SelectLaws.{target_first, selects_facts, selects_one, selects_target}
use Rattle.fabric_transfer.specs.Code.Numbers.{Posted}
use Rattle.fabric_transfer.proofs.PowerLaws.{legal_widths}
use Rattle.fabric_transfer.proofs.NumberLaws.{accesses_pos}
use Rattle.fabric_state.specs.declared.State.{State}
use Rattle.fabric_state.specs.Records.{transfer_at, late_at}
use Rattle.fabric_state.specs.Posting.{wrong_beats, unaligned, wrong_lanes, unmapped, is_unmapped}
use Rattle.fabric_state.specs.Posting.{passes_end, transfer_refusal_by, transfer_refusal}
use Rattle.fabric_state.specs.Soundness.{holds_for, requests, unmapped_at, latency_at}

-- a transfer is unmapped where its address selects no slave
module _ (b : Board) (m : ℕ) (t : Transfer) where
  pub mapped_target : is_unmapped b m t ≡ false → target_of b m t.address < b.slave_count
  unfolding is_unmapped unmapped
  mapped_target e =
      let f = target_first b m t.address in
      let none = eqb-false (target_of b m t.address) b.slave_count e in
      omega (arith, f.within)

  pub target_mapped : target_of b m t.address < b.slave_count → is_unmapped b m t ≡ false
  unfolding is_unmapped unmapped
  target_mapped h = ne_eqb (target_of b m t.address) b.slave_count (λ q. omega (arith, h, q))

  pub unmapped_target : is_unmapped b m t ≡ true → target_of b m t.address ≡ b.slave_count
  unfolding is_unmapped unmapped
  unmapped_target e = eqb-true (target_of b m t.address) b.slave_count e

  -- what it has of latency
  pub latency_mapped : is_unmapped b m t ≡ false → latency_at b m t ≡ latency_of (slave_at b (target_of b m t.address)) t
  unfolding latency_at
  latency_mapped e = rw e

  pub latency_unmapped : is_unmapped b m t ≡ true → latency_at b m t ≡ 0
  unfolding latency_at
  latency_unmapped e = rw e

  -- one that a board without the line `default` takes is for a slave
  pub taken_mapped : b.default_line ≡ false → transfer_refusal b m t ≡ 0 → is_unmapped b m t ≡ false
  unfolding transfer_refusal transfer_refusal_by is_unmapped
  taken_mapped d ok =
      let p = passed (wrong_beats (master_at b m) t) 12 _ ok in
      let q = passed (unaligned (master_at b m) t) 13 _ p.1 in
      let r = passed (wrong_lanes (master_at b m) t) 14 _ q.1 in
      go (unmapped (target_of b m t.address) b.slave_count) b.default_line d r.1
    where
      past : Bool
      past = passes_end (master_at b m) (slave_at b (target_of b m t.address)) t

      go : (c has : Bool) → has ≡ false → cond {A = ℕ} c (cond has 0 16) (cond past 17 0) ≡ 0 → c ≡ false
      go true true h e = absurd (true≢false h)
      go true false h e = absurd (omega (arith, e))
      go false has h e = refl

-- who holds an unmapped transfer
module _ (b : Board) (st : State) (m : ℕ) where
  pub unmapped_held : unmapped_at b st m ≡ true → (transfer_at st m).held ≡ true
  unfolding unmapped_at
  unmapped_held e = (both (transfer_at st m).held (is_unmapped b m (transfer_at st m)) e).0

  pub unmapped_is : unmapped_at b st m ≡ true → is_unmapped b m (transfer_at st m) ≡ true
  unfolding unmapped_at
  unmapped_is e = (both (transfer_at st m).held (is_unmapped b m (transfer_at st m)) e).1

  pub unmapped_of : (transfer_at st m).held ≡ true → is_unmapped b m (transfer_at st m) ≡ true → unmapped_at b st m ≡ true
  unfolding unmapped_at
  unmapped_of h e = rw (h, e)

  pub mapped_idle : (transfer_at st m).held ≡ false → unmapped_at b st m ≡ false
  unfolding unmapped_at
  mapped_idle h = rw h

  pub mapped_of : is_unmapped b m (transfer_at st m) ≡ false → unmapped_at b st m ≡ false
  unfolding unmapped_at
  mapped_of e = rw e (and-false (transfer_at st m).held)

  pub mapped_held : (transfer_at st m).held ≡ true → unmapped_at b st m ≡ false → is_unmapped b m (transfer_at st m) ≡ false
  unfolding unmapped_at
  mapped_held h e = rw h at e

-- the same transfer in two states
pub unmapped_same : (b : Board) (st u : State) (m : ℕ) → transfer_at u m ≡ transfer_at st m → unmapped_at b u m ≡ unmapped_at b st m
unfolding unmapped_at
unmapped_same b st u m e = rw e

-- who holds a transfer for a slave holds one, and its address selects the slave
module _ (b : Board) (st : State) (s m : ℕ) where
  pub holds_held : holds_for b st s m ≡ true → (transfer_at st m).held ≡ true
  unfolding holds_for
  holds_held e = (both (transfer_at st m).held (selects b m (transfer_at st m).address s) e).0

  pub holds_selects : holds_for b st s m ≡ true → selects b m (transfer_at st m).address s ≡ true
  unfolding holds_for
  holds_selects e = (both (transfer_at st m).held (selects b m (transfer_at st m).address s) e).1

  pub holds_not : (transfer_at st m).held ≡ false → holds_for b st s m ≡ false
  unfolding holds_for
  holds_not h = rw h

  -- and holds it for that slave alone
  pub holds_target : Legal b → holds_for b st s m ≡ true → target_of b m (transfer_at st m).address ≡ s
  holds_target legal e = selects_target b legal m (transfer_at st m).address s (holds_selects e)

  -- a requester holds a transfer for the slave, and has no latency clocks to pass
  pub requests_free : requests b st s m ≡ true → late_at st m ≡ 0
  unfolding requests
  requests_free e = eqb-true (late_at st m) 0 (both (eqb (late_at st m) 0) (holds_for b st s m) e).0

  pub requests_holds : requests b st s m ≡ true → holds_for b st s m ≡ true
  unfolding requests
  requests_holds e = (both (eqb (late_at st m) 0) (holds_for b st s m) e).1

  pub requests_held : requests b st s m ≡ true → (transfer_at st m).held ≡ true
  requests_held e = holds_held (requests_holds e)

  pub requests_selects : requests b st s m ≡ true → selects b m (transfer_at st m).address s ≡ true
  requests_selects e = holds_selects (requests_holds e)

  pub requests_of : late_at st m ≡ 0 → (transfer_at st m).held ≡ true → selects b m (transfer_at st m).address s ≡ true
      → requests b st s m ≡ true
  unfolding requests holds_for
  requests_of f h e = rw (f, h, e)

  pub requests_not : (transfer_at st m).held ≡ false → requests b st s m ≡ false
  unfolding requests
  requests_not h = rw (holds_not h) (and-false (eqb (late_at st m) 0))

  pub requests_late : late_at st m ≢ 0 → requests b st s m ≡ false
  unfolding requests
  requests_late h = rw (ne_eqb (late_at st m) 0 h)

  -- and requests that slave alone
  pub requests_target : Legal b → requests b st s m ≡ true → target_of b m (transfer_at st m).address ≡ s
  requests_target legal e = holds_target legal (requests_holds e)

  -- so its transfer is not unmapped
  pub requests_mapped : Legal b → requests b st s m ≡ true → is_unmapped b m (transfer_at st m) ≡ false
  requests_mapped legal e =
      let x = selects_facts b legal m (transfer_at st m).address s (requests_selects e) in
      target_mapped b m (transfer_at st m) (omega (arith, requests_target legal e, x.within))

  -- and has the latency that it has at that slave
  pub requests_latency : Legal b → requests b st s m ≡ true
      → latency_at b m (transfer_at st m) ≡ latency_of (slave_at b s) (transfer_at st m)
  requests_latency legal e =
      latency_mapped b m (transfer_at st m) (requests_mapped legal e) ∙ rw (requests_target legal e)

pub requests_one : (b : Board) (st : State) (m s k : ℕ) → Legal b → requests b st s m ≡ true → requests b st k m ≡ true → s ≡ k
requests_one b st m s k legal e f =
    selects_one b legal m m (transfer_at st m).address s k (requests_selects b st s m e) (requests_selects b st k m f)

-- what is true of a transfer of master m that is not refused, at the slave s that it is for
pub record Accepted (b : Board) (m : ℕ) (t : Transfer) (s : ℕ) : Type 0 where
  pub some : 1 ≤ t.beats
  pub few : t.beats ≤ (master_at b m).burst
  pub aligned : t.address % (master_at b m).width ≡ 0
  pub lanes : post_lanes (master_at b m).width t.lanes t.beats ≡ true
  pub target : target_of b m t.address ≡ s
  pub within : s < b.slave_count
  pub selected : selects b m t.address s ≡ true
  pub shares : 1 ≤ shares_at b m s
  pub low : (slave_at b s).base ≤ t.address
  pub end : t.address + t.beats * (master_at b m).width ≤ (slave_at b s).base + (slave_at b s).span

module _ (b : Board) (legal : Legal b) (m : ℕ) (t : Transfer) (ok : transfer_refusal b m t ≡ 0) where
  -- unless it is unmapped, it is for a slave
  pub accepted : is_unmapped b m t ≡ false → Accepted b m t (target_of b m t.address)
  unfolding transfer_refusal transfer_refusal_by wrong_beats unaligned wrong_lanes is_unmapped passes_end
  accepted mapped =
      let s = target_of b m t.address in
      let p = passed (wrong_beats (master_at b m) t) 12 _ ok in
      let q = passed (unaligned (master_at b m) t) 13 _ p.1 in
      let r = passed (wrong_lanes (master_at b m) t) 14 _ q.1 in
      let v = passed (passes_end (master_at b m) (slave_at b s) t) 16 _ (rw mapped at r.1) in
      let f = target_first b m t.address in
      let within : s < b.slave_count = mapped_target b m t mapped in
      let x = selects_facts b legal m t.address s (f.found within) in
      let beats = neither (eqb t.beats 0) (ltb (master_at b m).burst t.beats) p.0 in
      let nothing = eqb-false t.beats 0 beats.0 in
      let some : 1 ≤ t.beats = omega arith in
      record {
        some = some;
        few = ltb-false (master_at b m).burst t.beats beats.1;
        aligned = eqb-true (t.address % (master_at b m).width) 0 (not-false (eqb (t.address % (master_at b m).width) 0) q.0);
        lanes = not-false (post_lanes (master_at b m).width t.lanes t.beats) r.0;
        target = refl;
        within = within;
        selected = f.found within;
        shares = x.shares;
        low = x.inside.low;
        end = ltb-false ((slave_at b s).base + (slave_at b s).span) (t.address + t.beats * (master_at b m).width) v.0;
      }

  -- and for each that it selects
  pub accepted_at : (s : ℕ) → selects b m t.address s ≡ true → Accepted b m t s
  accepted_at s e =
      let same = selects_target b legal m t.address s e in
      let x = selects_facts b legal m t.address s e in
      rw same at (accepted (target_mapped b m t (omega (arith, same, x.within))))

  -- mapped or not, its words fit its master's part
  taken_beats : t.beats ≤ (master_at b m).burst
  unfolding transfer_refusal transfer_refusal_by wrong_beats
  taken_beats =
      let p = passed (wrong_beats (master_at b m) t) 12 _ ok in
      ltb-false (master_at b m).burst t.beats (neither (eqb t.beats 0) (ltb (master_at b m).burst t.beats) p.0).1

  pub taken_bytes : m < b.master_count → t.beats * (master_at b m).width ≤ 512
  taken_bytes known =
      let ma = legal.master m known in
      let few = taken_beats in
      let burst = (member_within 1 64 (master_at b m).burst bursts tt ma.burst).1 in
      let beats : t.beats ≤ 64 = omega arith in
      let width = (member_within 1 8 (master_at b m).width widths tt ma.width).1 in
      omega (arith, product_le t.beats (master_at b m).width 64 8 beats width)

-- so its accesses stand side by side, and there is one
module _ (b : Board) (legal : Legal b) (m s : ℕ) (t : Transfer) (known : m < b.master_count) (ok : Accepted b m t s) where
  pub accepted_posted : Posted (master_at b m) (slave_at b s) t
  accepted_posted = record {
    wide = legal_widths (master_at b m) (slave_at b s) (legal.master m known) (legal.slave s ok.within);
    some = ok.some;
    lanes = ok.lanes;
  }

  pub accepted_accesses : 1 ≤ accesses (master_at b m) (slave_at b s) t
  accepted_accesses = accesses_pos (master_at b m) (slave_at b s) t accepted_posted
