-- Which accesses of a transfer are carried out: those of a write with bus sizing that have an enabled lane. Legal lanes stand
-- side by side, and so do they.
-- Assumes nothing.
use mathlib.Core.Path.{◌≡◌, refl, sym, ap, ◌∙◌}
use mathlib.Core.Bool.{Bool, true, false, cond, not, ◌&&◌, ◌||◌, and-false, or-false, true≢false}
use mathlib.Core.Logic.{◌≢◌}
use Prim.Native.Nat.{ℕ, ◌+◌, ◌-◌, ◌*◌, ◌/◌, ◌%◌, ◌^◌, ◌≤◌, ◌<◌, min}
use native.Mathlib.Nat.{zero-add, zero-mul, one-mul, mul-pos, mul-le-mul, mul-mod_left, mod-add-mod, mod-eq_of_lt}
use native.Mathlib.Nat.{div-le_self}
use native.Mathlib.Omega.{arith}
use lib.Count.{ones, ones-le, count_trailing_zeros, trailing_le}
use lib.Dec.{eqb, leb, ltb}
use lib.ListN.{length}
use lib.Pow.{pow_pos}
use borrow.Author.Tests.{ne_eqb, lt-ltb, le-ltb, lt-leb, le-leb, eqb-true, eqb-false, leb-true, not-true, not-false}
use Rattle.common_laws.specs.Bits.{bit}
use Rattle.common_laws.specs.Lists.{table}
use Rattle.common_laws.proofs.Arithmetic.{multiple_room}
use Rattle.common_laws.proofs.BitLaws.{bit_field}
use Rattle.common_laws.proofs.Tests.{both}
use Rattle.common_laws.proofs.TableLaws.{length_table, get_or_table}
use Rattle.common_laws.proofs.FilteredLaws.{filtered_passes, filtered_all, filtered_between}
use Rattle.description_board.specs.declared.Master.{Master}
use Rattle.description_board.specs.Records.{Slave}
use Rattle.description_board.specs.Records.{is_native}
use Rattle.description_board.proofs.RuleLaws.{width_bound}
use Rattle.fabric_lanes.specs.Lanes.{lowest, all_lanes, legal_lanes, post_lanes}
use Rattle.fabric_lanes.proofs.LaneLaws.{legal_lt, legal_lowest}
use Rattle.fabric_transfer.specs.declared.Transfer.{Transfer}
use Rattle.fabric_transfer.specs.Alignment.{ratio, leaves_out, lane_bytes, access_bytes}
use Rattle.fabric_transfer.specs.Accesses.{first_byte, write_lanes, accessed, access_numbers, accesses, access_number}
use Rattle.fabric_transfer.specs.Code.Pairs.{Widths}
use Rattle.fabric_transfer.specs.Code.Numbers.{Posted, first_access, beat_accesses}
use Rattle.fabric_transfer.proofs.AlignmentLaws.{ratio_pos, ratio_le, sized_ratio, sized_bytes, lanes_divide_master}
use Rattle.fabric_transfer.proofs.LaneAccesses.{lanes_of, first_of, count_of, lane_some, lane_fits, lane_agrees}
use Rattle.fabric_transfer.proofs.LaneAccesses.{full_first, full_count, full_lanes}

module _ (ma : Master) (sl : Slave) (t : Transfer) where
  -- what is left out: nothing of a read, nothing at a native slave
  pub leaves_write : leaves_out sl t ≡ true → t.write ≡ true
  unfolding leaves_out
  leaves_write e = (both t.write _ e).0

  leaves_sized : leaves_out sl t ≡ true → is_native sl ≡ false
  unfolding leaves_out
  leaves_sized e = not-true _ (both t.write _ e).1

  pub leaves_none : leaves_out sl t ≡ false → (a : ℕ) → accessed ma sl t a ≡ true
  unfolding accessed
  leaves_none e a = rw e

  leaves_some : leaves_out sl t ≡ true → (a : ℕ) → accessed ma sl t a ≡ not (eqb (write_lanes ma sl t a) 0)
  unfolding accessed
  leaves_some e a = rw e

  -- so each access of a write with bus sizing that is carried out writes a lane
  pub number_lanes : t.write ≡ true → is_native sl ≡ false → (k : ℕ) → k < accesses ma sl t
      → write_lanes ma sl t (access_number ma sl t k) ≢ 0
  unfolding leaves_out accesses access_number access_numbers
  number_lanes w n k h z =
      let a = access_number ma sl t k in
      let passes = filtered_passes (accessed ma sl t) (t.beats * ratio ma sl) k h in
      eqb-false (write_lanes ma sl t a) 0 (not-true _ (sym (leaves_some (rw (w, n)) a) ∙ passes)) z

  -- an access writes no lane where it has none in the master's word
  sized_lanes : leaves_out sl t ≡ true → (a : ℕ) → accessed ma sl t a ≡ not (eqb (lanes_of ma.width sl.width t.lanes a) 0)
  unfolding write_lanes first_byte lane_bytes
  sized_lanes e a =
      let n = lanes_of ma.width sl.width t.lanes a in
      leaves_some e a ∙ rw (sized_bytes ma sl (leaves_sized e)) (ap not (go n _ (eqb n 0) refl))
    where
      go : (n k : ℕ) (c : Bool) → eqb n 0 ≡ c → eqb (n * 2 ^ k) 0 ≡ c
      go n k true q = rw (eqb-true n 0 q, zero-mul)
      go n k false q =
          let pos : 0 < n * 2 ^ k = mul-pos (omega (arith, eqb-false n 0 q)) (pow_pos k) in
          ne_eqb (n * 2 ^ k) 0 (λ z. absurd (omega arith))

  -- the accesses that are carried out: from a first one on, so many of each beat
  record SideBySide : Type 0 where
    pub some : 1 ≤ beat_accesses ma sl t
    pub fits : first_access ma sl t + t.beats * beat_accesses ma sl t ≤ t.beats * ratio ma sl
    pub between : (a : ℕ) → a < t.beats * ratio ma sl
        → accessed ma sl t a ≡ (leb (first_access ma sl t) a && ltb a (first_access ma sl t + t.beats * beat_accesses ma sl t))

  module _ (w : Widths ma sl) where
    abbrev m : ℕ
    m = ma.width

    abbrev s : ℕ
    s = sl.width

    each_pos : 1 ≤ ratio ma sl
    each_pos = ratio_pos ma sl (width_bound s w.slave).0

    -- nothing is left out
    whole : leaves_out sl t ≡ false → SideBySide
    unfolding first_access beat_accesses
    whole e = record {
      some = rw e each_pos;
      fits = rw (e, zero-add) (omega arith);
      between = λ a h. rw (e, zero-add, leaves_none e a, le-leb 0 a (omega arith), lt-ltb a (t.beats * ratio ma sl) h);
    }

    -- a write with bus sizing
    module _ (e : leaves_out sl t ≡ true) where
      sized_first : first_access ma sl t ≡ first_of m s t.lanes
      unfolding first_access lane_bytes
      sized_first = rw (e, sized_bytes ma sl (leaves_sized e))

      sized_count : beat_accesses ma sl t ≡ count_of m s t.lanes
      unfolding beat_accesses lane_bytes
      sized_count = rw (e, sized_bytes ma sl (leaves_sized e))

      -- the bytes of an access lie within one word of the master
      access_room : (a : ℕ) → a * min m s % m + min m s ≤ m
      unfolding lane_bytes
      access_room a =
          multiple_room (a * min m s) (min m s) m (width_bound m w.master).0 (mul-mod_left a (min m s))
          (lanes_divide_master ma sl w.master w.slave)

      -- of all lanes
      full_accessed : t.lanes ≡ all_lanes m → (a : ℕ) → accessed ma sl t a ≡ true
      full_accessed l a =
          let pos : 0 < min m s = omega (arith, (width_bound m w.master).0, (width_bound s w.slave).0) in
          let low : a * min m s % m < 8 = omega (arith, access_room a, (width_bound m w.master).1) in
          sized_lanes e a ∙ rw l (full_lanes m s w.master w.slave (a * min m s % m) (access_room a) low)

      full : t.lanes ≡ all_lanes m → SideBySide
      unfolding lane_bytes
      full l =
          let none : first_access ma sl t ≡ 0 = sized_first ∙ rw l (full_first m s w.master w.slave) in
          let all : beat_accesses ma sl t ≡ ratio ma sl
          = sized_count ∙ rw (l, sized_ratio ma sl (leaves_sized e)) (full_count m s w.master w.slave) in
          record {
            some = rw all each_pos;
            fits = rw (none, all, zero-add) (omega arith);
            between = λ a h.
                rw (none, all, zero-add, le-leb 0 a (omega arith), lt-ltb a (t.beats * ratio ma sl) h) (full_accessed l a);
          }

      -- of one beat
      single : t.beats ≡ 1 → legal_lanes m t.lanes ≡ true → SideBySide
      single one legal =
          let r = sized_ratio ma sl (leaves_sized e) in
          record {
            some = rw sized_count (lane_some m s w.master w.slave t.lanes legal);
            fits = rw (sized_first, sized_count, r, one, one-mul, one-mul)
                (lane_fits m s w.master w.slave t.lanes legal);
            between = λ a h.
                rw (sized_first, sized_count, sized_lanes e a, one, one-mul)
                (lane_agrees m s w.master w.slave t.lanes legal a (rw (one, one-mul, r) at h)
                (omega (arith, rw (one, one-mul) at h, ratio_le ma sl 8 (omega arith) (width_bound m w.master).1)));
          }

    -- where every lane is enabled every access is carried out
    pub accesses_full : t.lanes ≡ all_lanes m → accesses ma sl t ≡ t.beats * ratio ma sl
    unfolding accesses access_numbers
    accesses_full l =
        ap length (filtered_all (accessed ma sl t) (t.beats * ratio ma sl) (λ a h. go a (leaves_out sl t) refl))
        ∙ length_table (λ a. a) (t.beats * ratio ma sl)
      where
        go : (a : ℕ) (c : Bool) → leaves_out sl t ≡ c → accessed ma sl t a ≡ true
        go a true e = full_accessed e l a
        go a false e = leaves_none e a

    -- an access that is left out has no byte of an enabled lane
    pub left_out_lane : (a : ℕ) → accessed ma sl t a ≡ false → (j : ℕ) → j < access_bytes ma sl
        → bit t.lanes ((first_byte ma sl a + j) % m) ≡ false
    unfolding first_byte lane_bytes
    left_out_lane a out j h = go (leaves_out sl t) refl
      where
        go : (c : Bool) → leaves_out sl t ≡ c → bit t.lanes ((first_byte ma sl a + j) % m) ≡ false
        go false e = absurd (true≢false (sym (leaves_none e a) ∙ out))
        go true e =
            let each : access_bytes ma sl ≡ min m s = sized_bytes ma sl (leaves_sized e) in
            let none : lanes_of m s t.lanes a ≡ 0
            = eqb-true _ _ (not-false _ (sym (sized_lanes e a) ∙ out)) in
            let low : a * min m s % m + j < m = omega (arith, access_room e a, each) in
            rw (each, ← mod-add-mod (a * min m s) m j, mod-eq_of_lt low)
            (bit_field t.lanes (a * min m s % m) (min m s) j none (omega (arith, each)))

  module _ (p : Posted ma sl t) where
    side_by_side : SideBySide
    unfolding post_lanes
    side_by_side = go (leaves_out sl t) refl (eqb t.lanes (all_lanes ma.width)) refl
      where
        legal : (legal_lanes ma.width t.lanes ≡ true) × ((leb t.beats 1 || eqb t.lanes (all_lanes ma.width)) ≡ true)
        legal = both (legal_lanes ma.width t.lanes) _ p.lanes

        go : (c : Bool) → leaves_out sl t ≡ c → (d : Bool) → eqb t.lanes (all_lanes ma.width) ≡ d → SideBySide
        go false e d f = whole p.wide e
        go true e true f = full p.wide e (eqb-true _ _ f)
        go true e false f =
            let few : t.beats ≤ 1 = leb-true _ _ (rw (f, or-false) at legal.1) in
            single p.wide e (omega (arith, few, p.some)) legal.0

    -- the first of them and how many of each beat, as the code finds them
    lanes_legal : legal_lanes ma.width t.lanes ≡ true
    unfolding post_lanes
    lanes_legal = (both (legal_lanes ma.width t.lanes) _ p.lanes).0

    pub lanes_few : ones t.lanes ≤ 8
    lanes_few = ones-le 8 t.lanes (legal_lt ma.width t.lanes (width_bound ma.width p.wide.master).1 lanes_legal)

    pub first_few : first_access ma sl t ≤ 8
    unfolding first_access lowest
    first_few = go (leaves_out sl t)
      where
        go : (c : Bool) → cond c (lowest t.lanes / access_bytes ma sl) 0 ≤ 8
        go true = omega (arith, div-le_self (lowest t.lanes) (access_bytes ma sl), trailing_le 8 t.lanes)
        go false = omega arith

    module _ {bytes r : ℕ} (e : leaves_out sl t ≡ true) (f : bytes ≡ access_bytes ma sl) where
      pub first_found : r ≡ count_trailing_zeros 32 t.lanes / bytes → r ≡ first_access ma sl t
      unfolding first_access
      first_found q =
          let low = legal_lowest ma.width t.lanes (width_bound ma.width p.wide.master).1 lanes_legal in
          rw (q, f, e, low)

      pub beat_found : r ≡ (ones t.lanes + (bytes - 1)) / bytes → r ≡ beat_accesses ma sl t
      unfolding beat_accesses
      beat_found q = rw (q, f, e)

    pub first_none : leaves_out sl t ≡ false → 0 ≡ first_access ma sl t
    unfolding first_access
    first_none e = rw e

    pub beat_whole : leaves_out sl t ≡ false → ratio ma sl ≡ beat_accesses ma sl t
    unfolding beat_accesses
    beat_whole e = rw e

    numbers_are : access_numbers ma sl t ≡ table (λ k. first_access ma sl t + k) (t.beats * beat_accesses ma sl t)
    unfolding access_numbers
    numbers_are =
        filtered_between (accessed ma sl t) (first_access ma sl t) (t.beats * beat_accesses ma sl t) (t.beats * ratio ma sl)
        side_by_side.fits side_by_side.between

    pub accesses_are : accesses ma sl t ≡ t.beats * beat_accesses ma sl t
    unfolding accesses
    accesses_are = ap length numbers_are ∙ length_table (λ k. first_access ma sl t + k) (t.beats * beat_accesses ma sl t)

    pub accesses_pos : 1 ≤ accesses ma sl t
    accesses_pos = rw accesses_are (mul-le-mul p.some side_by_side.some)

    -- the k-th behind the first
    pub number_is : (k : ℕ) → k < accesses ma sl t → access_number ma sl t k ≡ first_access ma sl t + k
    unfolding access_number
    number_is k h =
        rw numbers_are
        (get_or_table (λ j. first_access ma sl t + j) (t.beats * beat_accesses ma sl t) 0 k (rw accesses_are at h))

    -- all of them are of the transfer's beats
    pub numbers_fit : first_access ma sl t + accesses ma sl t ≤ t.beats * ratio ma sl
    numbers_fit = rw accesses_are side_by_side.fits

    -- those in front of the first and behind the last are left out
    pub front_left_out : (a : ℕ) → a < first_access ma sl t → accessed ma sl t a ≡ false
    front_left_out a h =
        side_by_side.between a (omega (arith, side_by_side.fits)) ∙ rw (lt-leb (first_access ma sl t) a h)

    pub end_left_out : (a : ℕ) → first_access ma sl t + accesses ma sl t ≤ a → a < t.beats * ratio ma sl
        → accessed ma sl t a ≡ false
    end_left_out a h l =
        let last = first_access ma sl t + t.beats * beat_accesses ma sl t in
        side_by_side.between a l ∙ rw (le-ltb a last (omega (arith, accesses_are)), and-false)
