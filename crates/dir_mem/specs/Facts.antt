-- What the tests of a sound directory mean.
use Rattle.std.specs.Prelude.{◌≡◌, ℕ, ◌≤◌, true, List, [], ◌∷◌, length, take, Some, None, is_none, refl}
use Rattle.std.proofs.Common.{zero, suc, zero-le, sym, ◌∙◌, ap, inl, inr, ⊎_elim}
use Rattle.std.proofs.Math.Nat.{le_refl, le_of_suc-le-suc, not-suc-le-zero, add-le-add}
use Rattle.std.proofs.lemmas.Bool.{false≢true, or_cases, and_parts}
use Rattle.std.proofs.lemmas.List.{take_all}
use Rattle.std.proofs.lemmas.Slice.Eq.{bytes_eq-Decides}
use Rattle.dir_disk.specs.State.{Member, Gone, Exactly, Anything, Content, Admits, Allows, Held, absent}
use Rattle.dir_disk.specs.Moments.{files}
use Rattle.dir_mem.specs.declared.log.Step.{Step}
use Rattle.dir_mem.specs.Log.{told_by, state_of, calls_of, count_of}
use Rattle.dir_mem.specs.Sound.{admits, allows, is_short_content, is_sound, is_just_gone, is_absent}

just_gone : (may : List Member) → is_just_gone may ≡ true → may ≡ Gone ∷ []
just_gone [] is = absurd (false≢true is)
just_gone (Gone ∷ []) is = refl
just_gone (Gone ∷ (member ∷ may)) is = absurd (false≢true is)
just_gone (Exactly bytes ∷ may) is = absurd (false≢true is)
just_gone (Anything ∷ may) is = absurd (false≢true is)

no_content : (content : Content) → is_none content ≡ true → content ≡ None
no_content None is = refl
no_content (Some bytes) is = absurd (false≢true is)

pub absent_from : (held : Held) → is_absent held ≡ true → held ≡ absent
absent_from held is =
    let parts = and_parts (is_none held.now) (is_just_gone held.may) is in
    ap (λ (now : Content). let h : Held = record { now = now; may = held.may } in h) (no_content held.now parts.0) ∙ ap (λ (may : List Member). let h : Held = record { now = None; may = may } in h) (just_gone held.may parts.1)

pub allowed_now : (held : Held) → is_sound held ≡ true → allows held.may held.now ≡ true
allowed_now held sound = (and_parts _ _ sound).0

pub short_now : (held : Held) → is_sound held ≡ true → is_short_content held.now ≡ true
short_now held sound = (and_parts _ _ (and_parts _ _ sound).1).0

admits_it : (member : Member) (content : Content) → admits member content ≡ true → Admits member content
admits_it Gone None is = refl
admits_it Gone (Some bytes) is = absurd (false≢true is)
admits_it (Exactly bytes) None is = absurd (false≢true is)
admits_it (Exactly bytes) (Some others) is = ap Some (sym ((bytes_eq-Decides bytes others).0 is))
admits_it Anything content is = is

-- what the test allows is allowed
pub allows_it : (may : List Member) (content : Content) → allows may content ≡ true → Allows may content
allows_it [] content is = absurd (false≢true is)
allows_it (member ∷ may) content is =
    ⊎_elim (λ first. inl (admits_it member content first)) (λ later. inr (allows_it may content later)) (or_cases (admits member content) (allows may content) is)

-- the present state is the one after all steps
pub present : (steps : List Step) → files (told_by steps) ≡ state_of steps
present steps = ap state_of (take_all (length steps) steps (le_refl (length steps)))

-- longer fronts of the log have as many calls at least
pub calls_grow : (steps : List Step) (early late : ℕ) → early ≤ late → calls_of (take early steps) ≤ calls_of (take late steps)
calls_grow steps zero late le = zero-le
calls_grow [] (suc early) late le = zero-le
calls_grow (step ∷ steps) (suc early) zero le = absurd (not-suc-le-zero le)
calls_grow (step ∷ steps) (suc early) (suc late) le =
    add-le-add (le_refl (count_of step)) (calls_grow steps early late (le_of_suc-le-suc le))
