-- Records and their bytes, and the law of plans.
use Rattle.std.proofs.Common.{◌≡◌, ℕ, ◌+◌, ◌*◌, ◌/◌, ◌%◌, ◌^◌, ◌<◌, ◌≤◌, Bool, true, false, cond, List, [], ◌∷◌, ◌++◌, length, get_or, None, Ok, Err, Result, sym, refl, ap, ◌∙◌, subst, arith, w8, w32, Fits, SFits, to_z, of_z}
use Rattle.std.proofs.ByRecursion.{All-from_get_or}
use Rattle.std.specs.List.{flat_map, AllByRecursion}
use Rattle.std.proofs.lemmas.Bool.Decides.{nat_tests}
use Rattle.std.proofs.lemmas.Int.{ints, to_z-of_z, of_z-to_z}
use Rattle.network.specs.declared.record.Record.{Record}
use Rattle.network.specs.declared.next.Next.TheVariants.{Layer}
use Rattle.network.specs.declared.faults.NetworkFault.{NetworkFault}
use Rattle.network.specs.declared.faults.NetworkFault.TheVariants.{PlanLength}
use Rattle.network.specs.Plan.{record_of, records, LayerOf, Tail, parse, described, has_bad_length, plan_of}
use Rattle.network.specs.Network.{layer_records, word_bytes, record_bytes, Describes}
use Rattle.network.proofs.Law.{Chain, describes, accepted}
use Rattle.network.proofs.Shapes.{chain_shaped, shaped_chain, words_to, words_from}

abbrev big : ℕ → ℕ → ℕ → ℕ → ℕ
big a b c d = ((a * 256 + b) * 256 + c) * 256 + d

-- a number below 2 ^ 32 and its four bytes
big_back : (u : ℕ) → big (u / 16777216) (u / 65536 % 256) (u / 256 % 256) (u % 256) ≡ u
big_back u = omega arith

big_below : (a b c d : ℕ) → a < 256 → b < 256 → c < 256 → d < 256 → big a b c d < 2 ^ 32
big_below a b c d p q r s = omega arith

word_back : (a b c d : ℕ) → a < 256 → b < 256 → c < 256 → d < 256 → word_bytes (big a b c d) ≡ a ∷ (b ∷ (c ∷ (d ∷ [])))
word_back a b c d p q r s =
    let e : big a b c d / 16777216 ≡ a = omega arith in
    let f : big a b c d / 65536 % 256 ≡ b = omega arith in
    let g : big a b c d / 256 % 256 ≡ c = omega arith in
    let h : big a b c d % 256 ≡ d = omega arith in
    cc

record_back : (k f i0 i1 v0 v1 v2 v3 : ℕ) → i1 < 256 → v0 < 256 → v1 < 256 → v2 < 256 → v3 < 256 → record_bytes (record_of k f i0 i1 v0 v1 v2 v3) ≡ k ∷ (f ∷ (i0 ∷ (i1 ∷ (v0 ∷ (v1 ∷ (v2 ∷ (v3 ∷ [])))))))
record_back k f i0 i1 v0 v1 v2 v3 h p q r s =
    let e : (i0 * 256 + i1) / 256 ≡ i0 = omega arith in
    let g : (i0 * 256 + i1) % 256 ≡ i1 = omega arith in
    let u = of_z-to_z w32 (big v0 v1 v2 v3) (big_below v0 v1 v2 v3 p q r s) in
    let w = word_back v0 v1 v2 v3 p q r s in
    rw (e, g, u, w)

-- whole records of bytes are those bytes again
pub bytes_back : (bs : List ℕ) → length bs % 8 ≡ 0 → AllByRecursion (λ b. b < 256) bs → flat_map record_bytes (records bs) ≡ bs
bytes_back (k ∷ f ∷ i0 ∷ i1 ∷ v0 ∷ v1 ∷ v2 ∷ v3 ∷ rest) h a =
    let t = a.1.1.1 in let v = t.1.1.1.1 in
    let r = record_back k f i0 i1 v0 v1 v2 v3 t.0 t.1.0 t.1.1.0 t.1.1.1.0 v.0 in
    let i = bytes_back rest (omega (arith, h)) v.1 in
    ap (λ x. x ++ flat_map record_bytes (records rest)) r ∙ ap (λ x. k ∷ (f ∷ (i0 ∷ (i1 ∷ (v0 ∷ (v1 ∷ (v2 ∷ (v3 ∷ x)))))))) i
bytes_back (k ∷ f ∷ i0 ∷ i1 ∷ v0 ∷ v1 ∷ v2 ∷ []) h a = absurd (omega (arith, h))
bytes_back (k ∷ f ∷ i0 ∷ i1 ∷ v0 ∷ v1 ∷ []) h a = absurd (omega (arith, h))
bytes_back (k ∷ f ∷ i0 ∷ i1 ∷ v0 ∷ []) h a = absurd (omega (arith, h))
bytes_back (k ∷ f ∷ i0 ∷ i1 ∷ []) h a = absurd (omega (arith, h))
bytes_back (k ∷ f ∷ i0 ∷ []) h a = absurd (omega (arith, h))
bytes_back (k ∷ f ∷ []) h a = absurd (omega (arith, h))
bytes_back (k ∷ []) h a = absurd (omega (arith, h))
bytes_back [] h a = refl

fits_word : (u : ℕ) → u < 2 ^ 32 → SFits w32 (to_z w32 u)
fits_word u h = grind (arith, ints)

-- and their values are words
pub values_fit : (bs : List ℕ) → AllByRecursion (λ b. b < 256) bs → AllByRecursion (λ r. SFits w32 r.value) (records bs)
values_fit (k ∷ f ∷ i0 ∷ i1 ∷ v0 ∷ v1 ∷ v2 ∷ v3 ∷ rest) a =
    let t = a.1.1.1.1 in
    (fits_word (big v0 v1 v2 v3) (big_below v0 v1 v2 v3 t.0 t.1.0 t.1.1.0 t.1.1.1.0), values_fit rest t.1.1.1.1)
values_fit (k ∷ f ∷ i0 ∷ i1 ∷ v0 ∷ v1 ∷ v2 ∷ []) a = tt
values_fit (k ∷ f ∷ i0 ∷ i1 ∷ v0 ∷ v1 ∷ []) a = tt
values_fit (k ∷ f ∷ i0 ∷ i1 ∷ v0 ∷ []) a = tt
values_fit (k ∷ f ∷ i0 ∷ i1 ∷ []) a = tt
values_fit (k ∷ f ∷ i0 ∷ []) a = tt
values_fit (k ∷ f ∷ []) a = tt
values_fit (k ∷ []) a = tt
values_fit [] a = tt

-- the bytes of records are those records again
pub records_back : (rs : List Record) → AllByRecursion (λ r. SFits w32 r.value) rs → records (flat_map record_bytes rs) ≡ rs
records_back [] a = refl
records_back (r ∷ rs) a =
    let i : r.index / 256 * 256 + r.index % 256 ≡ r.index = omega arith in
    let v : to_z w32 (big (of_z w32 r.value / 16777216) (of_z w32 r.value / 65536 % 256) (of_z w32 r.value / 256 % 256) (of_z w32 r.value % 256)) ≡ r.value = ap (to_z w32) (big_back (of_z w32 r.value)) ∙ to_z-of_z w32 r.value a.0 in
    rw (i, v, records_back rs a.1)

pub bytes_length : (rs : List Record) → length (flat_map record_bytes rs) ≡ 8 * length rs
bytes_length [] = refl
bytes_length (r ∷ rs) = omega (arith, bytes_length rs)

pub described_inv : (x : Result Tail ℕ) (ls : List LayerOf) → described x ≡ Ok ls → (t : Tail) × (x ≡ Ok t) × (t.layers ≡ ls)
described_inv (Ok t) ls e = (t, refl, cc)
described_inv (Err p) ls e = absurd (cc)

pub plan_inv : (b : Bool) (x : Result (List LayerOf) NetworkFault) (ls : List LayerOf) → cond b (Err PlanLength) x ≡ Ok ls → (b ≡ false) × (x ≡ Ok ls)
plan_inv true x ls e = absurd (cc)
plan_inv false x ls e = (refl, e)

-- a plan that is accepted describes its layers
pub plan_describes : (bs : List ℕ) (ls : List LayerOf) → AllByRecursion (λ b. b < 256) bs → plan_of bs ≡ Ok ls → Describes ls bs
unfolding plan_of
plan_describes bs ls a e =
    let p = plan_inv (has_bad_length (length bs)) (described (parse (Layer None 4) 0 (records bs))) ls e in
    let q = described_inv (parse (Layer None 4) 0 (records bs)) ls p.1 in
    let d = describes (records bs) (Layer None 4) 0 q.0 tt q.1 in
    let r : records bs ≡ layer_records ls = d.0 ∙ ap layer_records q.2 in
    let b = p.0 in
    record {
      encoded = sym (bytes_back bs (grind (arith, nat_tests)) a) ∙ ap (flat_map record_bytes) r;
      formed = (chain_shaped ls (subst (λ l. Chain None 4 l) q.2 d.1.2), words_from ls (subst (λ rs. AllByRecursion (λ r. SFits w32 r.value) rs) r (values_fit bs a)));
      short = grind (arith, nat_tests);
    }

some_records : (ls : List LayerOf) → Chain None 4 ls → 0 < length (layer_records ls)
some_records [] c = absurd (cc)
some_records (l ∷ ls) c = omega arith

not_bad : (n m : ℕ) → n ≡ 8 * m → 0 < m → n ≤ 65528 → has_bad_length n ≡ false
not_bad n m e p h = let k : n % 8 ≡ 0 = omega arith in grind (arith, nat_tests)

pub describes_records : (bs : List ℕ) (ls : List LayerOf) → Describes ls bs → records bs ≡ layer_records ls
describes_records bs ls d = ap records d.encoded ∙ records_back (layer_records ls) (words_to ls d.formed.0.sized d.formed.1)

-- and what describes layers is accepted, with those layers
pub described_plan : (bs : List ℕ) (ls : List LayerOf) → Describes ls bs → plan_of bs ≡ Ok ls
unfolding plan_of
described_plan bs ls d =
    let c = shaped_chain ls d.formed.0 in
    let p = accepted (records bs) (Layer None 4) 0 (record { weights = []; neurons = []; layers = ls }) tt (describes_records bs ls d) (refl, refl, c) in
    let n = ap length d.encoded ∙ bytes_length (layer_records ls) in
    let b : has_bad_length (length bs) ≡ false = not_bad (length bs) (length (layer_records ls)) n (some_records ls c) d.short in
    rw (b, p)

-- what a slice of bytes holds
pub all_bytes : (bs : List ℕ) → ((i : ℕ) → Fits w8 (get_or bs i 0)) → AllByRecursion (λ b. b < 256) bs
all_bytes bs f = All-from_get_or (λ b. b < 256) bs 0 (λ i h. omega (arith, f i))
