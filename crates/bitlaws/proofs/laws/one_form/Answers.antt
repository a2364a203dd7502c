use Rattle.std.proofs.Common.{◌≡◌, ◌↔◌, ℕ, zero, suc, ◌+◌, ◌<◌, ◌≤◌, List, [], ◌∷◌}
use Rattle.std.proofs.Common.{Some, Ok, Err, true, nat_lt, refl, sym, ap, subst, arith}
use Rattle.std.specs.Prelude.{Result}
use Rattle.std.specs.List.{list_all}
use Rattle.std.proofs.lemmas.Bool.Decides.{nat_tests}
use Rattle.serde_json.specs.Data.{Data, Items, number, array, no_items, item, unsigned}
use Rattle.serde_json.specs.Find.{get_item}
use Rattle.serde_json.specs.View.{items_of}
use Rattle.bitjson.specs.Form.{form, parts, bytes, bytes_from, byte, whole, numbers, or_fault, ◌>>=◌}
use Rattle.bitlaws.specs.InForm.{HasParts, InForm, HasFault, IsFirstNoByte}
use Rattle.bitlaws.specs.JsonLaws.{ReadsForm}
use Rattle.bitjson.specs.declared.fault.JsonFault.{JsonFault}
use Rattle.bitjson.specs.declared.fault.JsonFault.TheVariants as fault
use Rattle.fixedbitset.specs.Json.{of_bytes}
use Rattle.bitlaws.proofs.laws.one_form.Goals as goal

-- the bytes and the parts that values are
byte_tells : (e : Data) (b : ℕ) → (byte e ≡ Some b) ↔ ((b < 256) × (e ≡ number (unsigned b)))
byte_tells e b = grind (arith, nat_tests)

parts_tells : (d l x : Data) → (parts d ≡ Ok (l, x)) ↔ HasParts d l x
unfolding parts
parts_tells d l x = grind (arith, nat_tests)

parts_fault : (d : Data) (f : JsonFault) → parts d ≡ Err f → HasFault d f
unfolding parts
parts_fault d f is = grind (arith, nat_tests)

-- items, of which the first is item i: their bytes, and that a fault is that of one of them
items_ok : (i : ℕ) (ds : Items) (bs : List ℕ)
    → (bytes_from i ds ≡ Ok bs) ↔ ((ds ≡ items_of (numbers bs)) × (list_all (λ b. nat_lt b 256) bs ≡ true))
items_ok i (item e ds) (b ∷ bs) = let later = items_ok (i + 1) ds bs in grind (arith, nat_tests, byte_tells, later)
items_ok i no_items [] = grind arith
items_ok i ds bs = grind arith

items_late : (i : ℕ) (ds : Items) (f : JsonFault) → bytes_from i ds ≡ Err f → (k : ℕ) × (f ≡ fault.Item k) × (i ≤ k)
items_late i no_items f = grind arith
items_late i (item e ds) f = let later = items_late (i + 1) ds in grind (arith, later)

-- item j is a byte
abbrev IsByteAt : Items → ℕ → Type 0
IsByteAt ds j = (b : ℕ) × (b < 256) × (get_item j ds ≡ Some (number (unsigned b)))

-- and that it is the first that is no byte
before : (e : Data) (ds : Items) (k b : ℕ) → byte e ≡ Some b → ((j : ℕ) → j < k → IsByteAt ds j)
    → (j : ℕ) → j < suc k → IsByteAt (item e ds) j
before e ds k b one more zero low = let is = (byte_tells e b).0 one in (b, is.0, ap Some is.1)
before e ds k b one more (suc j) low = more j (omega arith)

items_fault : (i : ℕ) (ds : Items) (k : ℕ) → (bytes_from i ds ≡ Err (fault.Item (i + k))) ↔ IsFirstNoByte ds k
items_fault i no_items k = grind arith
items_fault i (item e ds) zero =
    let late = items_late (i + 1) ds in (
      λ is. (e, refl, grind (arith, byte_tells, late), λ j low. absurd (omega arith)),
      λ h. grind (arith, byte_tells, h.2),
    )
items_fault i (item e ds) (suc k) =
    let later = items_fault (i + 1) ds k in (
      λ is.
          let one : (b : ℕ) × (byte e ≡ Some b) = grind arith in
          let rest = later.0 (grind arith) in
          (rest.0, rest.1, rest.2, before e ds k one.0 one.1 rest.3),
      λ h. let one = h.3 0 (omega arith) in
          grind (arith, byte_tells, later.1 (h.0, h.1, h.2, λ j low. h.3 (suc j) (omega arith))),
    )

-- what an answer says of a value, and that `form` answers all of which this holds
abbrev Tells : Data → Result (ℕ × List ℕ) JsonFault → Type 0
Tells d (Ok (n, bs)) = InForm d n bs
Tells d (Err f) = HasFault d f

answers : (d : Data) (r : Result (ℕ × List ℕ) JsonFault) → Tells d r → form d ≡ r
unfolding form parts bytes
answers d (Ok (n, bs)) h = grind (arith, nat_tests, items_ok 0 (items_of (numbers bs)) bs)
answers d (Err (fault.Item k)) h = grind (arith, nat_tests, items_fault 0 h.1 k)
answers d (Err f) h = grind (arith, nat_tests)

-- and that it holds of what `form` answers: of the items, of the two parts, of the value
tells_items : (d : Data) (n : ℕ) (ds : Items) (r : Result (List ℕ) JsonFault)
    → HasParts d (number (unsigned n)) (array ds) → bytes_from 0 ds ≡ r → Tells d (r >>= λ bs. Ok (n, bs))
tells_items d n ds (Ok bs) has is = let read = (items_ok 0 ds bs).0 is in (rw read.0 at has, read.1)
tells_items d n ds (Err f) has is =
    let late = items_late 0 ds f is in rw late.1 (n, ds, has, (items_fault 0 ds late.0).0 (grind arith))

tells_parts : (d l x : Data) → HasParts d l x
    → Tells d (or_fault (whole l) fault.Length >>= λ n. bytes x >>= λ bs. Ok (n, bs))
unfolding bytes
tells_parts d (number (unsigned n)) (array ds) has = tells_items d n ds (bytes_from 0 ds) has refl
tells_parts d (number (unsigned n)) x has = (n, x, has, grind arith)
tells_parts d l x has = (l, x, has, grind arith)

tells : (d : Data) (p : Result (Data × Data) JsonFault) → parts d ≡ p
    → Tells d (p >>= λ p. or_fault (whole p.0) fault.Length >>= λ n. bytes p.1 >>= λ bs. Ok (n, bs))
tells d (Ok (l, x)) is = tells_parts d l x ((parts_tells d l x).0 is)
tells d (Err f) is = parts_fault d f is

-- so a reading says what `form` answers of a value
module _ {A : Type 0} (of : ℕ → List ℕ → A) where
  known : (d : Data) (r : Result (ℕ × List ℕ) JsonFault) → Tells d r
      → ((x : A) → (r >>= λ f. Ok (of f.0 f.1)) ≡ Ok x → (n : ℕ) × (bs : List ℕ) × InForm d n bs × (x ≡ of n bs))
      × ((f : JsonFault) → (r >>= λ f. Ok (of f.0 f.1)) ≡ Err f → HasFault d f)
  known d (Ok (n, bs)) t = (λ x e. (n, bs, t, cc), λ f e. absurd cc)
  known d (Err g) t = (λ x e. absurd cc, λ f e. let same : g ≡ f = cc in subst (HasFault d) same t)

  reads : ReadsForm (λ d. form d >>= λ f. Ok (of f.0 f.1)) of
  unfolding form
  reads d =
      let given = known d (form d) (tells d (parts d) refl) in (
        λ x. (given.0 x, λ h. rw (answers d (Ok (h.0, h.1)) h.2) (sym (ap Ok h.3))),
        λ f. (given.1 f, λ h. rw (answers d (Err f) h)),
      )

pub returns : goal.returns
returns c = (reads of_bytes, reads (λ n bs. n))
