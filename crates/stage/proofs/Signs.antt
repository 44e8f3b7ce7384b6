-- From bits to numbers with a sign: the saved sign bit, the complement, and where a sum leaves the word.
use Rattle.std.proofs.Common.{◌≡◌, ℕ, suc, ◌+◌, ◌-◌, ◌*◌, ◌/◌, ◌%◌, ◌^◌, ◌<◌, ◌≤◌, Bool, true, false, cond, ltb, ◌≢◌, ◌⊎◌, ℤ, pos, negsuc, ◌+ℤ◌, ◌-ℤ◌, Some, None, sym, refl, ap, ◌∙◌, subst, inl, inr, ⊎_elim, mod-lt, mod-eq_of_lt, div-add-mod', arith, lit<, pow_pos, pow-add, shr-shr, shr_lt, w32, w64, SFits, to_z, of_z, ltb-false, ltb-true}
use native.Mathlib.Decide.{dec_lt}
use native.Mathlib.Nat.{zero-div}
use lib.Arith.{digits_div}
use lib.Pow.{not_mod, shr_le, field, mod-mod-pow}
use mir.Val.{sel}
use borrow.Author.Differences.{up, down, sum_is_lem, same_in, true_is_le, false_is_le}
use Rattle.std.proofs.lemmas.Int.{ints, to_z_pos, to_z-of_z}
use Rattle.stage.specs.Word.{shifted, is_word, in_word}
use Rattle.stage.specs.Step.{signed}
use Rattle.stage.specs.Direction.{is_negative}
use Rattle.stage.specs.Adder.{complemented, wide}
use Rattle.stage.specs.declared.step.Direction.{Direction}
use Rattle.stage.specs.declared.step.Direction.TheVariants.{Plus, Minus}
use Rattle.stage.proofs.Carry.{low, State, first_fits, low_below, low_more}

-- 32 bits read with a sign are n, less 2^32 if the top bit is set
read_by : (n : ℕ) (t : Bool) → ltb n (2 ^ 31) ≡ t → n < 2 ^ 32
    → up (sel t (pos n) (negsuc (2 ^ 32 - suc n))) + n / 2 ^ 31 * 2 ^ 32 ≡ n + down (sel t (pos n) (negsuc (2 ^ 32 - suc n)))
read_by n true e h = omega (arith, ltb-true n (2 ^ 31) e)
read_by n false e h = omega (arith, ltb-false n (2 ^ 31) e)

read_is : (n : ℕ) → n < 2 ^ 32 → up (to_z w32 n) + n / 2 ^ 31 * 2 ^ 32 ≡ n + down (to_z w32 n)
read_is n h = read_by n (ltb n (2 ^ 31)) refl h

-- the shift of a complement is the complement of the shift
complement_shr : (j k m : ℕ) → m < 2 ^ (j + k) → (2 ^ (j + k) - 1 - m) / 2 ^ k ≡ 2 ^ j - 1 - m / 2 ^ k
complement_shr j k m h =
    let x = m / 2 ^ k in
    let l : x < 2 ^ j = shr_lt j k h in
    let c : 2 ^ j - 1 - x + suc x ≡ 2 ^ j = omega arith in
    let r : m % 2 ^ k < 2 ^ k = mod-lt m (pow_pos k) in
    let o : 2 ^ k - 1 - m % 2 ^ k < 2 ^ k = omega arith in
    let e : 2 ^ (j + k) - 1 - m ≡ (2 ^ j - 1 - x) * 2 ^ k + (2 ^ k - 1 - m % 2 ^ k) =
    omega (arith, pow-add 2 j k, div-add-mod' m (2 ^ k), ap (λ v. v * 2 ^ k) c) in
    ap (λ v. v / 2 ^ k) e ∙ digits_div (2 ^ j - 1 - x) o

-- the shift of the bits of −1 − n
wide_shr : (n s : ℕ) → n < 2 ^ 31 → s ≤ 31 → (2 ^ 64 - suc n) / 2 ^ s ≡ 2 ^ (64 - s) - 1 - n / 2 ^ s
wide_shr n s h k =
    let j : 64 - s + s ≡ 64 = omega arith in
    let c : 2 ^ 64 - suc n ≡ 2 ^ 64 - 1 - n = omega arith in
    ap (λ w. w / 2 ^ s) c
    ∙ subst (λ w. n < 2 ^ w → (2 ^ w - 1 - n) / 2 ^ s ≡ 2 ^ (64 - s) - 1 - n / 2 ^ s) j (complement_shr (64 - s) s n) (omega arith)

-- the bits of a shifted word
shift_bits : (v : ℤ) (s : ℕ) → SFits w32 v → s ≤ 31 → to_z w32 (of_z w64 v / 2 ^ s % 2 ^ 32) ≡ shifted v s
shift_bits (pos n) s f k =
    let l : n / 2 ^ s < 2 ^ 31 = omega (arith, shr_le n s, f.sfits) in
    let m : n / 2 ^ s < 2 ^ 32 = omega arith in
    ap (to_z w32) (mod-eq_of_lt m) ∙ to_z_pos w32 (n / 2 ^ s) l
shift_bits (negsuc n) s f k =
    let l : n / 2 ^ s < 2 ^ 31 = omega (arith, shr_le n s, f.sfits) in
    let m : n / 2 ^ s < 2 ^ 32 = omega arith in
    let i : 32 - s + 32 ≡ 64 - s = omega arith in
    let b : (2 ^ (64 - s) - 1 - n / 2 ^ s) % 2 ^ 32 ≡ 2 ^ 32 - 1 - n / 2 ^ s =
    subst (λ w. (2 ^ w - 1 - n / 2 ^ s) % 2 ^ 32 ≡ 2 ^ 32 - 1 - n / 2 ^ s) i (not_mod (32 - s) 32 m) in
    let d : 2 ^ 32 - 1 - n / 2 ^ s ≡ 2 ^ 32 - suc (n / 2 ^ s) = omega arith in
    ap (λ w. to_z w32 (w % 2 ^ 32)) (wide_shr n s f.sfits k) ∙ ap (to_z w32) (b ∙ d)
    ∙ to_z-of_z w32 (negsuc (n / 2 ^ s)) (record { sfits = l })

-- the bits of a complement
complement_is : (v : ℤ) → up (complemented true v) + up v + 1 ≡ down (complemented true v) + down v
complement_is (pos n) = omega arith
complement_is (negsuc n) = omega arith

complement_bits : (f : Bool) (n : ℕ) → to_z w32 (low f n 32) ≡ complemented f (to_z w32 (n % 2 ^ 32))
complement_bits false n = refl
complement_bits true n =
    omega (arith, ints, complement_is (to_z w32 (n % 2 ^ 32)), read_is (low true n 32) (low_below true n 32), read_is (n % 2 ^ 32) (low_below false n 32))

-- what the adder leaves of a and l: the word with the carry out of the top place, and the carry into it
record Left (a l first word carry into : ℕ) : Type 0 where
  left : a < 2 ^ 32
  right : l < 2 ^ 32
  one : first ≤ 1
  below : word < 2 ^ 32
  total : word + carry * 2 ^ 32 ≡ a + l + first
  top : into ≡ (a % 2 ^ 31 + l % 2 ^ 31 + first) / 2 ^ 31

left_of : (a : ℕ) (f : Bool) (n first word carry into : ℕ) → a < 2 ^ 32 → first ≤ 1 → State a f n first 32 word carry into → Left a (low f n 32) first word carry into
left_of a f n first word carry into h o s =
    let e : a % 2 ^ 32 ≡ a = mod-eq_of_lt h in
    let m : low f n 32 % 2 ^ 31 ≡ low f n 31 = omega (arith, low_more f n 31 1, low_below f n 31) in
    record {
      left = h;
      right = low_below f n 32;
      one = o;
      below = s.sum.below;
      total = omega (arith, s.sum.total);
      top = rw m (s.top 31 refl);
    }

abbrev exact : ℕ → ℕ → ℕ → ℤ
exact a l first = to_z w32 a +ℤ to_z w32 l +ℤ pos first

-- the adder of the top place
tops : {a l first word carry into : ℕ} → Left a l first word carry into → into + a / 2 ^ 31 + l / 2 ^ 31 ≡ word / 2 ^ 31 + 2 * carry
tops s = omega (arith, s.total, s.top)

-- the word, against the exact sum: it is off by 2^32 times the difference of the two carries
off_by : {a l first word carry into : ℕ} → Left a l first word carry into
    → up (to_z w32 word) + down (exact a l first) + into * 2 ^ 32 ≡ up (exact a l first) + down (to_z w32 word) + carry * 2 ^ 32
off_by {a} {l} {first} {word} s =
    omega (arith, tops s, s.total, read_is a s.left, read_is l s.right, read_is word s.below, sum_is_lem (to_z w32 a) (to_z w32 l), sum_is_lem (to_z w32 a +ℤ to_z w32 l) (pos first))

-- the two ends of the word
inside : (z : ℤ) → up z < down z + 2 ^ 31 → down z ≤ up z + 2 ^ 31 → is_word z ≡ true
inside z h l = rw (sym (true_is_le (negsuc 0x7fff_ffff) z (omega arith)), sym (true_is_le z (pos 0x7fff_ffff) (omega arith)))

above : (z : ℤ) → down z + 2 ^ 31 ≤ up z → is_word z ≡ false
above z h = rw (sym (true_is_le (negsuc 0x7fff_ffff) z (omega arith)), sym (false_is_le z (pos 0x7fff_ffff) (omega arith)))

under : (z : ℤ) → up z + 2 ^ 31 < down z → is_word z ≡ false
under z h = rw (sym (false_is_le (negsuc 0x7fff_ffff) z (omega arith)))

apart : (m n : ℕ) → m ≢ n → (m < n) ⊎ (n < m)
apart m n h = elim (dec_lt m n) [ yes p ↦ inl p | no q ↦ inr (omega arith) ]

-- where the two carries agree, the word is the sum
sum_fits : {a l first word carry into : ℕ} → Left a l first word carry into → into ≡ carry → Some (to_z w32 word) ≡ in_word (exact a l first)
sum_fits {a} {l} {first} {word} s v =
    let e : to_z w32 word ≡ exact a l first = same_in (to_z w32 word) (exact a l first) (omega (arith, off_by s)) in
    let r = read_is word s.below in
    let b = s.below in
    let i : is_word (to_z w32 word) ≡ true = inside (to_z w32 word) (omega arith) (omega arith) in
    rw (← e, i)

-- and where they differ, the sum is no word
sum_leaves : {a l first word carry into : ℕ} → Left a l first word carry into → into ≢ carry → None ≡ in_word (exact a l first)
sum_leaves {a} {l} {first} {word} {carry} {into} s v =
    let r = read_is word s.below in
    let b = s.below in
    let o = off_by s in
    let t : carry ≤ 1 = omega (arith, s.total, s.left, s.right, s.one) in
    let u : into ≤ 1 = omega (arith, s.top, s.one) in
    let i : is_word (exact a l first) ≡ false =
    ⊎_elim (λ h. under (exact a l first) (omega (arith, h))) (λ h. above (exact a l first) (omega (arith, h))) (apart into carry v) in
    rw i

-- the adder's sum, of a word and a shifted word
module _ (a : ℕ) (f : Bool) (v : ℤ) (s first p word carry into : ℕ) (h : a < 2 ^ 32) (o : first ≤ 1) (g : SFits w32 v) (k : s ≤ 31)
    (ep : p ≡ 32) (st : State a f (of_z w64 v / 2 ^ s) first p word carry into) where
  left_over : Left a (low f (of_z w64 v / 2 ^ s) 32) first word carry into
  left_over = left_of a f (of_z w64 v / 2 ^ s) first word carry into h o (rw ep at st)

  exact_is : exact a (low f (of_z w64 v / 2 ^ s) 32) first ≡ to_z w32 a +ℤ complemented f (shifted v s) +ℤ pos first
  exact_is = ap (λ z. to_z w32 a +ℤ z +ℤ pos first) (complement_bits f (of_z w64 v / 2 ^ s) ∙ ap (complemented f) (shift_bits v s g k))

  pub adds_in : into ≡ carry → Some (to_z w32 word) ≡ in_word (to_z w32 a +ℤ complemented f (shifted v s) +ℤ pos first)
  adds_in e = sum_fits left_over e ∙ ap in_word exact_is

  pub adds_out : into ≢ carry → None ≡ in_word (to_z w32 a +ℤ complemented f (shifted v s) +ℤ pos first)
  adds_out e = sum_leaves left_over e ∙ ap in_word exact_is

-- the places above the word hold its sign bit
wide_by : (n : ℕ) (t : Bool) → ltb n (2 ^ 31) ≡ t → n < 2 ^ 32
    → of_z w64 (sel t (pos n) (negsuc (2 ^ 32 - suc n))) ≡ n + n / 2 ^ 31 * (2 ^ 64 - 2 ^ 32)
wide_by n true e h = omega (arith, ltb-true n (2 ^ 31) e)
wide_by n false e h = omega (arith, ltb-false n (2 ^ 31) e)

wide_is : (n : ℕ) → n < 2 ^ 32 → wide n ≡ n + n / 2 ^ 31 * (2 ^ 64 - 2 ^ 32)
wide_is n h = wide_by n (ltb n (2 ^ 31)) refl h

pub bit_low : (n p : ℕ) → n < 2 ^ 32 → p ≤ 31 → n / 2 ^ p % 2 ≡ wide n / 2 ^ p % 2
bit_low n p h k =
    let W = wide n in
    let l : W % 2 ^ 32 ≡ n = omega (arith, wide_is n h) in
    let j : 32 - p + p ≡ 32 = omega arith in
    let i : 31 - p + 1 ≡ 32 - p = omega arith in
    let a : n / 2 ^ p ≡ W / 2 ^ p % 2 ^ (32 - p) = subst (λ v. v / 2 ^ p ≡ W / 2 ^ p % 2 ^ (32 - p)) l (subst (λ w. W % 2 ^ w / 2 ^ p ≡ W / 2 ^ p % 2 ^ (32 - p)) j (field W (32 - p) p)) in
    ap (λ v. v % 2) a ∙ subst (λ w. W / 2 ^ p % 2 ^ w % 2 ≡ W / 2 ^ p % 2) i (mod-mod-pow (W / 2 ^ p) (31 - p) 1)

high_by : (t q : ℕ) → t ≤ 1 → q ≤ 31 → t ≡ t * (2 ^ 32 - 1) / 2 ^ q % 2
high_by t q h k =
    let j : 32 - q + q ≡ 32 = omega arith in
    let i : 31 - q + 1 ≡ 32 - q = omega arith in
    let z : 0 / 2 ^ q ≡ 0 = zero-div (2 ^ q) in
    let e : 2 ^ (32 - q) ≡ 2 ^ (31 - q) * 2 = ap (λ w. 2 ^ w) (sym i) ∙ pow-add 2 (31 - q) 1 in
    let a : (2 ^ 32 - 1) / 2 ^ q ≡ 2 ^ (32 - q) - 1 - 0 / 2 ^ q =
    subst (λ w. 0 < 2 ^ w → (2 ^ w - 1 - 0) / 2 ^ q ≡ 2 ^ (32 - q) - 1 - 0 / 2 ^ q) j (complement_shr (32 - q) q 0) (lit< tt) in
    let o : (2 ^ 32 - 1) / 2 ^ q % 2 ≡ 1 = omega (arith, a, e, z, pow_pos (31 - q)) in
    elim (dec_lt t 1) [
      | yes l ↦ let u : t ≡ 0 = omega arith in u ∙ sym (ap (λ v. v * (2 ^ 32 - 1) / 2 ^ q % 2) u ∙ ap (λ v. v % 2) z)
      | no l ↦ let u : t ≡ 1 = omega arith in u ∙ sym (ap (λ v. v * (2 ^ 32 - 1) / 2 ^ q % 2) u ∙ o)
    ]

pub bit_high : (n p : ℕ) → n < 2 ^ 32 → 32 ≤ p → p < 64 → n / 2 ^ 31 ≡ wide n / 2 ^ p % 2
bit_high n p h k l =
    let W = wide n in
    let q : 32 + (p - 32) ≡ p = omega arith in
    let d : W / 2 ^ 32 ≡ n / 2 ^ 31 * (2 ^ 32 - 1) = omega (arith, wide_is n h) in
    let s : W / 2 ^ 32 / 2 ^ (p - 32) ≡ W / 2 ^ p = subst (λ w. W / 2 ^ 32 / 2 ^ (p - 32) ≡ W / 2 ^ w) q (shr-shr W 32 (p - 32)) in
    high_by (n / 2 ^ 31) (p - 32) (omega arith) (omega arith) ∙ ap (λ v. v % 2) (sym (ap (λ v. v / 2 ^ (p - 32)) d) ∙ s)

-- to subtract is to add the complement and 1
pub taken : (a v : ℤ) → a +ℤ complemented true v +ℤ pos 1 ≡ a -ℤ v
taken a (pos n) = omega (arith, ints)
taken a (negsuc n) = omega (arith, ints)

directed : (d : Direction) (a v : ℤ) → a +ℤ complemented (is_negative d) v +ℤ pos (cond (is_negative d) 1 0) ≡ a +ℤ signed d v
directed Plus a v = omega (arith, ints)
directed Minus a v = taken a v ∙ omega (arith, ints)

-- the adder's sum of a word and a shifted word, or their difference
module _ (d : Direction) (a : ℕ) (v : ℤ) (s p word carry into : ℕ) (h : a < 2 ^ 32) (g : SFits w32 v) (k : s ≤ 31) (ep : p ≡ 32)
    (st : State a (is_negative d) (of_z w64 v / 2 ^ s) (cond (is_negative d) 1 0) p word carry into) where
  pub sums_in : into ≡ carry → Some (to_z w32 word) ≡ in_word (to_z w32 a +ℤ signed d (shifted v s))
  sums_in e = adds_in a (is_negative d) v s _ p word carry into h (first_fits (is_negative d)) g k ep st e ∙ ap in_word (directed d (to_z w32 a) (shifted v s))

  pub sums_out : into ≢ carry → None ≡ in_word (to_z w32 a +ℤ signed d (shifted v s))
  sums_out e = adds_out a (is_negative d) v s _ p word carry into h (first_fits (is_negative d)) g k ep st e ∙ ap in_word (directed d (to_z w32 a) (shifted v s))
