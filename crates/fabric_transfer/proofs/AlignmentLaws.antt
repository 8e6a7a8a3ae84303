-- What holds of bus sizing and of native alignment alike: callers cite these laws and open neither.
-- Assumes nothing.
use mathlib.Core.Path.{◌≡◌, refl, sym, ap, ◌∙◌}
use mathlib.Core.Bool.{Bool, true, false, cond}
use Prim.Native.Nat.{ℕ, ◌+◌, ◌-◌, ◌*◌, ◌/◌, ◌%◌, ◌≤◌, ◌<◌, min}
use native.Mathlib.Nat.{zero-add, add-zero, add-mul, one-mul, mul-le-mul, mul-div_cancel, mul-mod_left, mul-add-div_right}
use native.Mathlib.Nat.{mul-add-mod_self_right, mod-eq_of_lt, div-eq_of_lt, div-lt_iff_lt-mul, div-mul-le_self}
use native.Mathlib.Nat.{le-div_iff_mul-le, div-le_self}
use native.Mathlib.Omega.{arith}
use lib.Dec.{T, eqb, ltb, eqb→eq}
use borrow.Author.Tests.{ltb-true, lt-ltb, le-ltb}
use Rattle.common_laws.specs.Lists.{member, agree}
use Rattle.common_laws.proofs.Arithmetic.{multiple_trans, multiple_add, multiple_sub, multiple_room}
use Rattle.common_laws.proofs.Finite.{agree_eq}
use Rattle.common_laws.proofs.Members.{all, of_member}
use Rattle.description_board.specs.declared.Master.{Master}
use Rattle.description_board.specs.Records.{Slave}
use Rattle.description_board.specs.Records.{is_native}
use Rattle.description_board.specs.Rules.{widths, too_narrow}
use Rattle.description_board.proofs.RuleLaws.{width_bound}
use Rattle.description_board.proofs.PairLaws.{wide_enough}
use Rattle.fabric_transfer.specs.declared.Transfer.{Transfer}
use Rattle.fabric_transfer.specs.Alignment.{ratio, lane_bytes, access_bytes, has_lane, byte_offset}
use Rattle.fabric_transfer.specs.Accesses.{first_byte, access_offset}

-- a test of two legal widths: computed at each pair
unfoldable pub pairs : (ℕ → ℕ → Bool) → Bool
pairs f = all (λ m. all (f m) widths) widths

pub of_pair : (f : ℕ → ℕ → Bool) → T (pairs f) → (m s : ℕ) → member m widths ≡ true → member s widths ≡ true → T (f m s)
unfolding pairs
of_pair f t m s p q = of_member (f m) widths (of_member (λ n. all (f n) widths) widths t m p) s q

-- the two alignments, one by one: every law below is made of these
module _ (ma : Master) (sl : Slave) where
  pub native_ratio : is_native sl ≡ true → ratio ma sl ≡ 1
  unfolding ratio
  native_ratio e = rw e

  pub sized_ratio : is_native sl ≡ false → ratio ma sl ≡ cond (ltb sl.width ma.width) (ma.width / sl.width) 1
  unfolding ratio
  sized_ratio e = rw e

  pub native_bytes : is_native sl ≡ true → access_bytes ma sl ≡ ma.width
  unfolding access_bytes
  native_bytes e = rw e

  pub sized_bytes : is_native sl ≡ false → access_bytes ma sl ≡ lane_bytes ma sl
  unfolding access_bytes
  sized_bytes e = rw e

  pub native_lane : (i : ℕ) → is_native sl ≡ true → has_lane ma sl i ≡ ltb (i % ma.width) sl.width
  unfolding has_lane
  native_lane i e = rw e

  pub sized_lane : (i : ℕ) → is_native sl ≡ false → has_lane ma sl i ≡ true
  unfolding has_lane
  sized_lane i e = rw e

  pub native_byte : (t : Transfer) (i : ℕ) → is_native sl ≡ true
      → byte_offset ma sl t i ≡ ((t.address - sl.base) / ma.width + i / ma.width) * sl.width + i % ma.width
  unfolding byte_offset
  native_byte t i e = rw e

  pub sized_byte : (t : Transfer) (i : ℕ) → is_native sl ≡ false → byte_offset ma sl t i ≡ t.address - sl.base + i
  unfolding byte_offset
  sized_byte t i e = rw e

  -- the lanes lie in the slave's word, in the master's, and in the bytes of the access
  pub lanes_slave : lane_bytes ma sl ≤ sl.width
  unfolding lane_bytes
  lanes_slave = omega arith

  pub lanes_master : lane_bytes ma sl ≤ ma.width
  unfolding lane_bytes
  lanes_master = omega arith

  pub lanes_narrow : sl.width ≤ ma.width → lane_bytes ma sl ≡ sl.width
  unfolding lane_bytes
  lanes_narrow h = omega arith

  pub lanes_access : lane_bytes ma sl ≤ access_bytes ma sl
  lanes_access = go (is_native sl) refl
    where
      go : (n : Bool) → is_native sl ≡ n → lane_bytes ma sl ≤ access_bytes ma sl
      go true e = rw (native_bytes e) lanes_master
      go false e = rw (sized_bytes e) (omega arith)

  pub access_master : access_bytes ma sl ≤ ma.width
  access_master = go (is_native sl) refl
    where
      go : (n : Bool) → is_native sl ≡ n → access_bytes ma sl ≤ ma.width
      go true e = rw (native_bytes e) (omega arith)
      go false e = rw (sized_bytes e) lanes_master

-- the accesses of a beat: some, and no more than the master's width counts
pub ratio_pos : (ma : Master) (sl : Slave) → 0 < sl.width → 1 ≤ ratio ma sl
ratio_pos ma sl h = go (is_native sl) refl (ltb sl.width ma.width) refl
  where
    go : (n : Bool) → is_native sl ≡ n → (c : Bool) → ltb sl.width ma.width ≡ c → 1 ≤ ratio ma sl
    go true e c l = rw (native_ratio ma sl e) (omega arith)
    go false e true l =
        rw (sized_ratio ma sl e, l)
        ((le-div_iff_mul-le h).1 (omega (arith, one-mul sl.width, ltb-true sl.width ma.width l)))
    go false e false l = rw (sized_ratio ma sl e, l) (omega arith)

pub ratio_le : (ma : Master) (sl : Slave) (w : ℕ) → 1 ≤ w → ma.width ≤ w → ratio ma sl ≤ w
ratio_le ma sl w some h = go (is_native sl) refl (ltb sl.width ma.width) refl
  where
    go : (n : Bool) → is_native sl ≡ n → (c : Bool) → ltb sl.width ma.width ≡ c → ratio ma sl ≤ w
    go true e c l = rw (native_ratio ma sl e) some
    go false e true l = rw (sized_ratio ma sl e, l) (omega (arith, div-le_self ma.width sl.width))
    go false e false l = rw (sized_ratio ma sl e, l) some

-- a master and a slave of legal widths
module _ (ma : Master) (sl : Slave) (m : member ma.width widths ≡ true) (s : member sl.width widths ≡ true) where
  -- the accesses of a beat have the bytes of the master's word
  pub ratio_bytes : ratio ma sl * access_bytes ma sl ≡ ma.width
  unfolding lane_bytes pairs
  ratio_bytes = go (is_native sl) refl
    where
      go : (n : Bool) → is_native sl ≡ n → ratio ma sl * access_bytes ma sl ≡ ma.width
      go true e = rw (native_ratio ma sl e, native_bytes ma sl e) (one-mul ma.width)
      go false e =
          rw (sized_ratio ma sl e, sized_bytes ma sl e)
          (eqb→eq _ _ (of_pair (λ x y. eqb (cond (ltb y x) (x / y) 1 * min x y) x) tt ma.width sl.width m s))

  -- they are what the master's word holds of the bytes of an access, which are a width too
  pub ratio_quotient : ma.width / access_bytes ma sl ≡ ratio ma sl
  unfolding lane_bytes pairs
  ratio_quotient = go (is_native sl) refl
    where
      go : (n : Bool) → is_native sl ≡ n → ma.width / access_bytes ma sl ≡ ratio ma sl
      go true e =
          rw (native_ratio ma sl e, native_bytes ma sl e)
          (eqb→eq _ _ (of_member (λ x. eqb (x / x) 1) widths tt ma.width m))
      go false e =
          rw (sized_ratio ma sl e, sized_bytes ma sl e)
          (eqb→eq _ _ (of_pair (λ x y. eqb (x / min x y) (cond (ltb y x) (x / y) 1)) tt ma.width sl.width m s))

  pub access_legal : member (access_bytes ma sl) widths ≡ true
  unfolding lane_bytes pairs member
  access_legal = go (is_native sl) refl
    where
      go : (n : Bool) → is_native sl ≡ n → member (access_bytes ma sl) widths ≡ true
      go true e = rw (native_bytes ma sl e) m
      go false e =
          rw (sized_bytes ma sl e)
          (agree_eq _ _ (of_pair (λ x y. agree (member (min x y) widths) true) tt ma.width sl.width m s))

  pub lanes_pos : 0 < lane_bytes ma sl
  unfolding lane_bytes
  lanes_pos = omega (arith, (width_bound ma.width m).0, (width_bound sl.width s).0)

  -- the lanes of an access are a part of the master's word, and of the slave's
  pub lanes_divide_master : ma.width % lane_bytes ma sl ≡ 0
  unfolding lane_bytes pairs
  lanes_divide_master = eqb→eq _ _ (of_pair (λ x y. eqb (x % min x y) 0) tt ma.width sl.width m s)

  lanes_divide_slave : sl.width % lane_bytes ma sl ≡ 0
  unfolding lane_bytes pairs
  lanes_divide_slave = eqb→eq _ _ (of_pair (λ x y. eqb (y % min x y) 0) tt ma.width sl.width m s)

  -- they lie within one word of the master
  pub first_in_word : (a : ℕ) → first_byte ma sl a % ma.width + lane_bytes ma sl ≤ ma.width
  unfolding first_byte
  first_in_word a = go (is_native sl) refl
    where
      go : (n : Bool) → is_native sl ≡ n → a * access_bytes ma sl % ma.width + lane_bytes ma sl ≤ ma.width
      go true e = rw (native_bytes ma sl e, mul-mod_left a ma.width, zero-add) (lanes_master ma sl)
      go false e =
          rw (sized_bytes ma sl e)
          (multiple_room (a * lane_bytes ma sl) (lane_bytes ma sl) ma.width (width_bound ma.width m).0
          (mul-mod_left a (lane_bytes ma sl)) lanes_divide_master)

  module _ (t : Transfer) where
    -- where access a begins, as the code works it out
    pub native_offset : (a : ℕ) → is_native sl ≡ true
        → access_offset ma sl t a ≡ ((t.address - sl.base) / ma.width + a) * sl.width
    unfolding access_offset first_byte
    native_offset a e =
        rw (
          native_byte ma sl t _ e,
          native_bytes ma sl e,
          mul-div_cancel a (width_bound ma.width m).0,
          mul-mod_left a ma.width,
          add-zero,
        )

    pub sized_offset : (a : ℕ) → is_native sl ≡ false → access_offset ma sl t a ≡ t.address - sl.base + first_byte ma sl a
    unfolding access_offset
    sized_offset a e = sized_byte ma sl t _ e

    -- and within one word of the slave, where the address is a multiple of the master's width and the base one of the slave's
    pub offset_in_word : (a : ℕ) → t.address % ma.width ≡ 0 → sl.base % sl.width ≡ 0
        → access_offset ma sl t a % sl.width + lane_bytes ma sl ≤ sl.width
    offset_in_word a at from = go (is_native sl) refl
      where
        go : (n : Bool) → is_native sl ≡ n → access_offset ma sl t a % sl.width + lane_bytes ma sl ≤ sl.width
        go true e = rw (native_offset a e, mul-mod_left, zero-add) (lanes_slave ma sl)
        go false e =
            let b = lane_bytes ma sl in
            let first : first_byte ma sl a ≡ a * b = unfold first_byte in ap (λ (x : ℕ). a * x) (sized_bytes ma sl e) in
            multiple_room (access_offset ma sl t a) b sl.width (width_bound sl.width s).0
            (rw (sized_offset a e, first)
            (multiple_add (t.address - sl.base) (a * b) b
            (multiple_sub t.address sl.base b
            (multiple_trans t.address ma.width b at lanes_divide_master)
            (multiple_trans sl.base sl.width b from lanes_divide_slave))
            (mul-mod_left a b)))
            lanes_divide_slave

    -- byte k of access a, where it has a lane, lies k bytes behind the first
    pub lane_offset : (a k : ℕ) → k < lane_bytes ma sl
        → byte_offset ma sl t (first_byte ma sl a + k) ≡ access_offset ma sl t a + k
    unfolding first_byte
    lane_offset a k h = go (is_native sl) refl
      where
        pos : 0 < ma.width
        pos = (width_bound ma.width m).0

        low : k < ma.width
        low = omega (arith, lanes_master ma sl)

        go : (n : Bool) → is_native sl ≡ n → byte_offset ma sl t (first_byte ma sl a + k) ≡ access_offset ma sl t a + k
        go true e =
            rw (native_byte ma sl t _ e, native_offset a e, native_bytes ma sl e, mul-add-div_right pos a k)
            (rw (mul-add-mod_self_right, div-eq_of_lt low, mod-eq_of_lt low, add-zero))
        go false e = rw (sized_byte ma sl t _ e, sized_offset a e) (omega arith)

    -- those that have one are the first of the access
    pub lane_below : (a k : ℕ) → k < lane_bytes ma sl → has_lane ma sl (first_byte ma sl a + k) ≡ true
    unfolding first_byte
    lane_below a k h = go (is_native sl) refl
      where
        go : (n : Bool) → is_native sl ≡ n → has_lane ma sl (first_byte ma sl a + k) ≡ true
        go true e =
            let low : k < ma.width = omega (arith, lanes_master ma sl) in
            rw (native_lane ma sl _ e, native_bytes ma sl e, mul-add-mod_self_right, mod-eq_of_lt low)
            (lt-ltb k sl.width (omega (arith, lanes_slave ma sl)))
        go false e = sized_lane ma sl _ e

    pub lane_above : (a k : ℕ) → lane_bytes ma sl ≤ k → k < access_bytes ma sl → has_lane ma sl (first_byte ma sl a + k) ≡ false
    unfolding first_byte lane_bytes
    lane_above a k h l = go (is_native sl) refl
      where
        go : (n : Bool) → is_native sl ≡ n → has_lane ma sl (first_byte ma sl a + k) ≡ false
        go true e =
            let low : k < ma.width = omega (arith, native_bytes ma sl e) in
            rw (native_lane ma sl _ e, native_bytes ma sl e, mul-add-mod_self_right, mod-eq_of_lt low)
            (le-ltb k sl.width (omega arith))
        go false e = absurd (omega (arith, sized_bytes ma sl e))

    -- every byte of the transfer that has a lane lies in the slave's span, where the transfer ends there by address
    pub byte_within : too_narrow ma sl ≡ false → t.address - sl.base + t.beats * ma.width ≤ sl.span
        → (i : ℕ) → i < t.beats * ma.width → has_lane ma sl i ≡ true → byte_offset ma sl t i < sl.span
    byte_within wide ends i h l = go (is_native sl) refl
      where
        from : ℕ
        from = (t.address - sl.base) / ma.width

        go : (n : Bool) → is_native sl ≡ n → byte_offset ma sl t i < sl.span
        go true e =
            let below : i % ma.width < sl.width = ltb-true _ _ (sym (native_lane ma sl i e) ∙ l) in
            let beat : i / ma.width < t.beats = (div-lt_iff_lt-mul (width_bound ma.width m).0).1 h in
            let words : (from + i / ma.width + 1) * sl.width ≤ (from + t.beats) * ma.width
            = mul-le-mul {n₁ = from + i / ma.width + 1} (omega arith) (wide_enough ma sl wide e) in
            rw (native_byte ma sl t i e)
            (omega (
              arith,
              words,
              add-mul (from + i / ma.width) 1 sl.width,
              one-mul sl.width,
              add-mul from t.beats ma.width,
              div-mul-le_self (t.address - sl.base) ma.width,
            ))
        go false e = rw (sized_byte ma sl t i e) (omega arith)
