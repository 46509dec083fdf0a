-- What was acknowledged is whole from its say on.
use Rattle.std.proofs.Common.{◌≡◌, ℕ, ◌+◌, ◌^◌, ◌<◌, ◌≤◌, Bool, true, false, ◌⊎◌, inl, inr, ⊎_elim, List, [], ◌∷◌, ◌++◌, None, Some, refl, sym, ◌∙◌, ap, subst, arith, append_assoc}
use Rattle.std.specs.Prelude.{Option, Result, Ok, Err, codes, decimal, drop, is_some, unwrap_or}
use Rattle.std.specs.List.{list_all}
use Rattle.std.specs.Char.{is_ascii_digit}
use Rattle.std.proofs.lemmas.Bool.{false≢true, and_parts, cases_lt}
use Rattle.std.proofs.lemmas.Fmt.{decimal_is_IsNumeral}
use Rattle.peg_text.specs.Decimal.{decimal_of}
use Rattle.peg_text.proofs.DecimalLemmas.{decimals_read_back, list_all-from_digits}
use Rattle.report.specs.Lines.{done_text, iteration_text, resumed_text}
use Rattle.conf.specs.declared.reading.Conf.{Conf as Settings}
use Rattle.std.proofs.lemmas.List.Elements.{Contains-push_cases}
use Rattle.dir_disk.specs.State.{State, Image, Fits, FitsEither}
use Rattle.dir_disk.specs.Moments.{Moment, Told, Through, Both, IsFresh, clock, files}
use Rattle.dir_disk.proofs.Through.{kept, weaker}
use Rattle.dir_disk.specs.declared.streams.SayFault.{SayFault}
use Rattle.dir_disk.specs.declared.streams.SayFault.TheVariants.{Failed, NoMemory}
use Rattle.dir_disk.specs.Says.{Say, with_say}
use Rattle.committer.specs.Paths.{success_of}
use Rattle.mining.specs.declared.place.Place.{Place}
use Rattle.mining.specs.declared.place.Place.TheVariants.{Vector}
use Rattle.mining.specs.Places.{folder_of}
use Rattle.mining.specs.Kept.{Has}
use Rattle.mining.specs.Between.{IsSure, KeepsVectors, KeepsWhole}
use Rattle.mining.specs.Acked.{Acknowledges, Acks, IsAckedBy, IsWholeAt}
use Rattle.mining.proofs.EnsureLemmas.{sure_kept}

sure_has : (place : Place) (s : State) (image : Image) → IsSure place s → Fits s image → Has place image
sure_has place s image sure fits = sure (image (success_of (folder_of place))) (fits (success_of (folder_of place)))

sure_has_both : (place : Place) (s t : State) (image : Image) → IsSure place s → IsSure place t → FitsEither s t image → Has place image
sure_has_both place s t image before after fits =
    let mark = success_of (folder_of place) in
    ⊎_elim (before (image mark)) (after (image mark)) (fits mark)

whole_moved : (told told' : Told) (moment k : ℕ) → told'.at moment ≡ told.at moment → told'.at (moment + 1) ≡ told.at (moment + 1) → (moment < told'.count → moment < told.count) → IsWholeAt told moment k → IsWholeAt told' moment k
whole_moved told told' moment k here next earlier whole =
    record {
      between = λ image fits. whole.between image (subst (λ (m : Moment). Fits m.state image) here fits);
      within = λ less image fits. whole.within (earlier less) image (subst (λ (m : Moment). FitsEither (told.at moment).state m.state image) next (subst (λ (m : Moment). FitsEither m.state (told'.at (moment + 1)).state image) here fits));
    }

acked_moved : (says : List Say) (m m' : Moment) (k : ℕ) → m' ≡ m → IsAckedBy says m'.calls k → IsAckedBy says m.calls k
acked_moved says m m' k same acked = subst (λ (x : Moment). IsAckedBy says x.calls k) same acked

-- the states of the steps
state_at : (P : State → Type 0) (d e : Told) → Through (Both P) d e → P (files d) → (moment : ℕ) → d.count ≤ moment → moment ≤ e.count → P (e.at moment).state
state_at P d e steps start moment from to =
    ⊎_elim (λ less. (steps.each moment from less).0) (λ last. let is : e.count ≡ moment = omega (arith, last, to) in subst (λ (m : ℕ). P (e.at m).state) is (kept P d e steps start)) (cases_lt moment e.count)

-- calls that leave vectors whole
pub acks_on : (had : List Say) (entry d e : Told) (says : Option (List Say)) → Acks had entry d says → Through (Both (KeepsVectors (files d))) d e → Acks had entry e says
acks_on had entry d e says acks steps =
    record {
      gained = acks.gained;
      is = acks.is;
      whole = whole;
      sure = λ clock k acked. keeps_at e.count steps.later (omega arith) k acked.few (acks.sure clock k acked);
    }
  where
    keeps_at : (moment : ℕ) → d.count ≤ moment → moment ≤ e.count → KeepsVectors (files d) (e.at moment).state
    keeps_at moment from to = state_at (KeepsVectors (files d)) d e steps (λ k few sure. sure) moment from to

    whole : (moment : ℕ) → entry.count ≤ moment → moment ≤ e.count → (k : ℕ) → IsAckedBy acks.gained (e.at moment).calls k → IsWholeAt e moment k
    whole moment from to k acked =
        ⊎_elim (λ before. let here : e.at moment ≡ d.at moment = steps.past moment (omega (arith, before)) in whole_moved d e moment k here (steps.past (moment + 1) (omega (arith, before))) (λ less. before) (acks.whole moment from (omega (arith, before)) k (acked_moved acks.gained (d.at moment) (e.at moment) k here acked))) (λ since. let was = acks.sure (e.at moment).calls k acked in let at : (m : ℕ) → d.count ≤ m → m ≤ e.count → IsSure (Vector k) (e.at m).state = λ m late early. keeps_at m late early k acked.few was in record { between = λ image fits. sure_has (Vector k) (e.at moment).state image (at moment since to) fits; within = λ less image fits. sure_has_both (Vector k) (e.at moment).state (e.at (moment + 1)).state image (at moment since to) (at (moment + 1) (omega (arith, since)) (omega (arith, less))) fits }) (cases_lt moment d.count)

pub whole_vectors : (d e : Told) → Through (Both (KeepsWhole (files d))) d e → Through (Both (KeepsVectors (files d))) d e
whole_vectors d e steps =
    weaker (Both (KeepsWhole (files d))) (Both (KeepsVectors (files d))) d e (λ s t both. (λ k few sure. sure_kept (Vector k) (files d) s few refl both.0 sure, λ k few sure. sure_kept (Vector k) (files d) t few refl both.1 sure)) steps

-- a say right after a call
pub acks_said : (had : List Say) (entry d : Told) (says : List Say) (say : Say) → Acks had entry d (Some says) → IsFresh d → say.moment ≡ clock d → ((k : ℕ) → k < 10 ^ 10 → say.ok ≡ true → Acknowledges say.bytes k → IsSure (Vector k) (files d)) → Acks had entry d (Some (says ++ say ∷ []))
acks_said had entry d says say acks fresh now line =
    record {
      gained = acks.gained ++ say ∷ [];
      is = ap (λ (xs : Option (List Say)). pushed xs) acks.is ∙ ap Some (append_assoc had acks.gained (say ∷ []));
      whole = whole;
      sure = λ clock k acked. sure clock k acked;
    }
  where
    pushed : Option (List Say) → Option (List Say)
    pushed None = None
    pushed (Some xs) = Some (xs ++ say ∷ [])

    by_say : (clock k : ℕ) → IsAckedBy (acks.gained ++ say ∷ []) clock k → IsAckedBy acks.gained clock k ⊎ ((say.moment ≤ clock) × (say.ok ≡ true) × Acknowledges say.bytes k)
    by_say clock k acked =
        ⊎_elim (λ old. inl (record { say = acked.say; made = old; ok = acked.ok; before = acked.before; few = acked.few; line = acked.line })) (λ new. inr (subst (λ (x : Say). x.moment ≤ clock) (sym new) acked.before, subst (λ (x : Say). x.ok ≡ true) (sym new) acked.ok, subst (λ (x : Say). Acknowledges x.bytes k) (sym new) acked.line)) (Contains-push_cases acks.gained say acked.say acked.made)

    sure : (clock k : ℕ) → IsAckedBy (acks.gained ++ say ∷ []) clock k → IsSure (Vector k) (files d)
    sure clock k acked = ⊎_elim (λ old. acks.sure clock k old) (λ new. line k acked.few new.1 new.2) (by_say clock k acked)

    whole : (moment : ℕ) → entry.count ≤ moment → moment ≤ d.count → (k : ℕ) → IsAckedBy (acks.gained ++ say ∷ []) (d.at moment).calls k → IsWholeAt d moment k
    whole moment from to k acked =
        ⊎_elim (λ old. acks.whole moment from to k old) (λ new. ⊎_elim (λ before. let early = fresh moment before in let said = new.0 in absurd (omega (arith, early, said, now))) (λ last. let is : d.count ≡ moment = omega (arith, last, to) in record { between = λ image fits. sure_has (Vector k) (d.at moment).state image (subst (λ (m : ℕ). IsSure (Vector k) (d.at m).state) is (line k acked.few new.1 new.2)) fits; within = λ less image fits. absurd (omega (arith, less, is)) }) (cases_lt moment d.count)) (by_say (d.at moment).calls k acked)

-- ---- lines

first : List ℕ → ℕ
first [] = 0
first (b ∷ bs) = b

-- digits end where a byte comes that is none
cut_at : (stop : ℕ) → is_ascii_digit stop ≡ false → (xs ys a b : List ℕ) → list_all is_ascii_digit xs ≡ true → list_all is_ascii_digit ys ≡ true → xs ++ stop ∷ a ≡ ys ++ stop ∷ b → xs ≡ ys
unfolding first
cut_at stop none [] [] a b dx dy same = refl
cut_at stop none [] (y ∷ ys) a b dx dy same =
    let is : stop ≡ y = ap first same in
    absurd (false≢true (sym none ∙ ap is_ascii_digit is ∙ (and_parts (is_ascii_digit y) (list_all is_ascii_digit ys) dy).0))
cut_at stop none (x ∷ xs) [] a b dx dy same =
    let is : x ≡ stop = ap first same in
    absurd (false≢true (sym none ∙ ap is_ascii_digit (sym is) ∙ (and_parts (is_ascii_digit x) (list_all is_ascii_digit xs) dx).0))
cut_at stop none (x ∷ xs) (y ∷ ys) a b dx dy same =
    ap (λ (z : ℕ). z ∷ xs) (ap first same) ∙ ap (λ (zs : List ℕ). y ∷ zs) (cut_at stop none xs ys a b (and_parts (is_ascii_digit x) (list_all is_ascii_digit xs) dx).1 (and_parts (is_ascii_digit y) (list_all is_ascii_digit ys) dy).1 (ap (drop 1) same))

digits_only : (n : ℕ) → n < 2 ^ 64 → list_all is_ascii_digit (decimal n) ≡ true
digits_only n small = list_all-from_digits (decimal n) (decimal_is_IsNumeral n small).0.1

same_number : (k j : ℕ) → k < 2 ^ 64 → j < 2 ^ 64 → decimal k ≡ decimal j → k ≡ j
same_number k j small too same =
    ap (λ (o : Option ℕ). unwrap_or o 0) (sym (decimals_read_back k small) ∙ ap decimal_of same ∙ decimals_read_back j too)

abbrev behind : ℕ → List ℕ
behind changed = codes "changed " ++ decimal changed ++ codes "\n"

grouped : (k changed : ℕ) → drop 10 (iteration_text k changed) ≡ decimal k ++ 32 ∷ behind changed
grouped k changed =
    append_assoc (decimal k ++ codes " changed ") (decimal changed) (codes "\n") ∙ append_assoc (decimal k) (codes " changed ") (decimal changed ++ codes "\n")

-- the line of an iteration acknowledges that one alone
pub iteration_tells : (k changed j : ℕ) → k < 2 ^ 64 → j < 2 ^ 64 → Acknowledges (iteration_text k changed) j → j ≡ k
unfolding first
iteration_tells k changed j small too (inl other) =
    sym (same_number k j small too (cut_at 32 refl (decimal k) (decimal j) (behind changed) (behind other.0) (digits_only k small) (digits_only j too) (sym (grouped k changed) ∙ ap (drop 10) other.1 ∙ grouped j other.0)))
iteration_tells k changed j small too (inr resumed) =
    let letters : 105 ≡ 114 = ap first resumed.3 in absurd (omega (arith, letters))

-- a say, by its answer
pub any_say_acks : {T : Type 0} (had : List Say) (entry d e : Told) (says now : Option (List Say)) (bytes : List ℕ) (moment : ℕ) (result : Result T SayFault) → e ≡ d → now ≡ with_say bytes moment result says → moment ≡ clock d → ((j : ℕ) → j < 10 ^ 10 → Acknowledges bytes j → IsSure (Vector j) (files d)) → IsFresh d → Acks had entry d says → Acks had entry e now
any_say_acks {T} had entry d e says now bytes moment result same said at line_sure fresh acks =
    subst (λ (told : Told). Acks had entry told now) (sym same) (subst (λ (xs : Option (List Say)). Acks had entry d xs) (sym said) (at_result result says acks))
  where
    at_result : (r : Result T SayFault) (xs : Option (List Say)) → Acks had entry d xs → Acks had entry d (with_say bytes moment r xs)
    at_result r None told = absurd (none_not_some (told.is))
      where
        none_not_some : {A : Type 0} {x : A} → None ≡ Some x → ⊥
        none_not_some is = false≢true (ap is_some is)
    at_result (Ok value) (Some xs) told =
        acks_said had entry d xs (record { bytes = bytes; ok = true; moment = moment }) told fresh at (λ j few_too ok tells. line_sure j few_too tells)
    at_result (Err Failed) (Some xs) told =
        acks_said had entry d xs (record { bytes = bytes; ok = false; moment = moment }) told fresh at (λ j few_too ok tells. line_sure j few_too tells)
    at_result (Err NoMemory) (Some xs) told = told

-- the line of an iteration that is whole
pub say_acks : {T : Type 0} (had : List Say) (entry d e : Told) (says now : Option (List Say)) (bytes : List ℕ) (moment k changed : ℕ) (result : Result T SayFault) → e ≡ d → now ≡ with_say bytes moment result says → bytes ≡ iteration_text k changed → moment ≡ clock d → k < 10 ^ 10 → IsSure (Vector k) (files d) → IsFresh d → Acks had entry d says → Acks had entry e now
say_acks had entry d e says now bytes moment k changed result same said line at few sure fresh acks =
    any_say_acks had entry d e says now bytes moment result same said at (λ j few_too tells. subst (λ (i : ℕ). IsSure (Vector i) (files d)) (sym (iteration_tells k changed j (omega (arith, few)) (omega (arith, few_too)) (subst (λ (text : List ℕ). Acknowledges text j) line tells))) sure) fresh acks

resumed_grouped : (k : ℕ) → drop 24 (resumed_text k) ≡ decimal k ++ 10 ∷ []
resumed_grouped k = refl

-- the line of a run that goes on acknowledges just what comes up to there
pub resumed_tells : (k j : ℕ) → k < 2 ^ 64 → Acknowledges (resumed_text k) j → j ≤ k
unfolding first
resumed_tells k j small (inl other) = let letters : 114 ≡ 105 = ap first other.1 in absurd (omega (arith, letters))
resumed_tells k j small (inr resumed) =
    let i : ℕ = resumed.0 in
    let below : i < 2 ^ 64 = omega (arith, resumed.2) in
    let same : k ≡ i = same_number k i small below (cut_at 10 refl (decimal k) (decimal i) [] [] (digits_only k small) (digits_only i below) (sym (resumed_grouped k) ∙ ap (drop 24) resumed.3 ∙ resumed_grouped i)) in
    omega (arith, same, resumed.1)

-- the line of a run that goes on after an iteration up to which all are whole
pub resumed_acks : {T : Type 0} (had : List Say) (entry d e : Told) (says now : Option (List Say)) (bytes : List ℕ) (moment k : ℕ) (result : Result T SayFault) → e ≡ d → now ≡ with_say bytes moment result says → bytes ≡ resumed_text k → moment ≡ clock d → k < 10 ^ 10 → ((j : ℕ) → j ≤ k → IsSure (Vector j) (files d)) → IsFresh d → Acks had entry d says → Acks had entry e now
resumed_acks had entry d e says now bytes moment k result same said line at few sure fresh acks =
    any_say_acks had entry d e says now bytes moment result same said at (λ j few_too tells. sure j (resumed_tells k j (omega (arith, few)) (subst (λ (text : List ℕ). Acknowledges text j) line tells))) fresh acks

-- the done line acknowledges nothing
pub done_tells_none : (conf : Settings) (last : ℕ) (settled : Bool) (total j : ℕ) → Acknowledges (done_text conf last settled total) j → ⊥
unfolding first
done_tells_none conf last settled total j (inl other) = let letters : 100 ≡ 105 = ap first other.1 in omega (arith, letters)
done_tells_none conf last settled total j (inr resumed) = let letters : 100 ≡ 114 = ap first resumed.3 in omega (arith, letters)

pub done_acks : {T : Type 0} (had : List Say) (entry d e : Told) (says now : Option (List Say)) (bytes : List ℕ) (moment : ℕ) (conf : Settings) (last : ℕ) (settled : Bool) (total : ℕ) (result : Result T SayFault) → e ≡ d → now ≡ with_say bytes moment result says → bytes ≡ done_text conf last settled total → moment ≡ clock d → IsFresh d → Acks had entry d says → Acks had entry e now
done_acks had entry d e says now bytes moment conf last settled total result same said line at fresh acks =
    any_say_acks had entry d e says now bytes moment result same said at (λ j few_too tells. absurd (done_tells_none conf last settled total j (subst (λ (text : List ℕ). Acknowledges text j) line tells))) fresh acks

pub acks_over : (had : List Say) (entry d e : Told) (says now : Option (List Say)) → now ≡ says → Through (Both (KeepsVectors (files d))) d e → Acks had entry d says → Acks had entry e now
acks_over had entry d e says now same steps acks =
    subst (λ (xs : Option (List Say)). Acks had entry e xs) (sym same) (acks_on had entry d e says acks steps)

pub acks_through : (had : List Say) (entry d e : Told) (says now : Option (List Say)) → now ≡ says → Through (Both (KeepsWhole (files d))) d e → Acks had entry d says → Acks had entry e now
acks_through had entry d e says now same steps acks =
    acks_over had entry d e says now same (whole_vectors d e steps) acks
