-- Three new registers, each a word or none, settle what the step comes to.
use Rattle.std.proofs.Common.{◌≡◌, Bool, true, false, cond, ℤ, Some, None, Ok, Err, Option, refl, sym}
use Rattle.stage.specs.Word.{is_word, in_word}
use Rattle.stage.specs.Step.{turned, judged, stepped, settled}
use Rattle.stage.specs.declared.registers.Triple.{Triple}
use Rattle.stage.specs.declared.registers.Register.TheVariants.{X, Y, Z}
use Rattle.stage.specs.declared.step.Step.{Step}

by_tests : (old new : Triple) (a b c : Bool)
    → settled old (cond a (Some new.x) None) (cond b (Some new.y) None) (cond c (Some new.z) None)
    ≡ judged old new (cond a (cond b (cond c None (Some Z)) (Some Y)) (Some X))
by_tests old new true true true = refl
by_tests old new true true false = refl
by_tests old new true false c = refl
by_tests old new false b c = refl

settled_is : (s : Step) (t : Triple) → settled t (in_word (turned s t).x) (in_word (turned s t).y) (in_word (turned s t).z) ≡ stepped s t
unfolding stepped
settled_is s t = let new = turned s t in by_tests t new (is_word new.x) (is_word new.y) (is_word new.z)

pub settles : (s : Step) (t : Triple) {x y z : Option ℤ} → x ≡ in_word (turned s t).x → y ≡ in_word (turned s t).y → z ≡ in_word (turned s t).z
    → settled t x y z ≡ stepped s t
settles s t e f g = rw (e, f, g) (settled_is s t)

module _ (s : Step) (t : Triple) where
  pub refuses_x : None ≡ in_word (turned s t).x → stepped s t ≡ Err (record { register = X; kept = t })
  refuses_x e = sym (settles s t e refl refl)

  pub refuses_y : {x : ℤ} → Some x ≡ in_word (turned s t).x → None ≡ in_word (turned s t).y → stepped s t ≡ Err (record { register = Y; kept = t })
  refuses_y e f = sym (settles s t e f refl)

  pub refuses_z : {x y : ℤ} → Some x ≡ in_word (turned s t).x → Some y ≡ in_word (turned s t).y → None ≡ in_word (turned s t).z
      → stepped s t ≡ Err (record { register = Z; kept = t })
  refuses_z e f g = sym (settles s t e f g)

  pub accepts : {x y z : ℤ} → Some x ≡ in_word (turned s t).x → Some y ≡ in_word (turned s t).y → Some z ≡ in_word (turned s t).z
      → stepped s t ≡ Ok (record { x = x; y = y; z = z })
  accepts e f g = sym (settles s t e f g)
