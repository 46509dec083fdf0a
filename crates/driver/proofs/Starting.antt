-- Where a run goes on, by what is whole when it begins.
use Rattle.std.proofs.Common.{◌≡◌, ℕ, ◌+◌, ◌^◌, ◌<◌, ◌≤◌, Bool, true, false, ⊎_elim, List, [], ◌∷◌, ◌++◌, None, Some, refl, sym, ◌∙◌, ap, subst, arith}
use Rattle.std.specs.Prelude.{Option, IfSome, IsSome, unwrap_or}
use Rattle.std.proofs.lemmas.Bool.{cases_lt}
use Rattle.std.proofs.lemmas.List.{append-nil}
use Rattle.peg_base.proofs.Under.{under-append}
use Rattle.dir_disk.specs.State.{Content, Fits, FitsEither, Held, Image, State, IsSound, StandsOutside}
use Rattle.dir_disk.specs.Moments.{Both, EachImage, Through, Told, files}
use Rattle.dir_disk.specs.Says.{Say}
use Rattle.dir_disk.proofs.Through.{then_goes, weaker}
use Rattle.std.specs.List.{Contains}
use Rattle.dir_disk.specs.Streams.{AddsPart, added}
use Rattle.committer.specs.Folders.{IsUnmarked}
use Rattle.committer.specs.Paths.{success_name, success_of}
use Rattle.committer.proofs.FolderLemmas.{some_is_there}
use Rattle.mining.specs.declared.place.Place.{Place}
use Rattle.mining.specs.declared.place.Place.TheVariants.{Conf, Edges, Nodes, Matrix, Vector}
use Rattle.mining.specs.Places.{folder_of, IsInTable, rank_of}
use Rattle.mining.specs.Flow.{Mining, last_of}
use Rattle.mining.specs.Kept.{AllKept, Has, Kept, Precedes}
use Rattle.mining.specs.Acked.{Acks}
use Rattle.mining.specs.Between.{AllFirm, IsSure, KeepsVectors}
use Rattle.mining.specs.Making.{IsAsAt}
use Rattle.mining.specs.Iterations.{IsDone, console, console_after}
use Rattle.mining.proofs.EnsureLemmas.{firm_same, sure_same}
use Rattle.mining.proofs.LastLemmas.{all_then}
use Rattle.mining.proofs.Looks.{same_after}
use Rattle.mining.proofs.Names.{same_or_apart}
use Rattle.driver.specs.Opening.{HasRun, HasVectors, IsFrom, IsFromThere, IsGreatest, IsSettled, KeepsFinished, StandsLater, from_text, mark_of}
use Rattle.driver.proofs.Finished.{sure_settled, sure_still}

-- ---- what is made before the iterations changes no later vector

early_later : (place : Place) → IsInTable place → rank_of place ≤ 7 → (s t : State) → StandsOutside (folder_of place) s t → StandsLater s t
unfolding rank_of
early_later place is_there early s t outside k some few =
    let mark = success_of (folder_of (Vector k)) in
    ⊎_elim (λ same. let ranks = ap rank_of same in absurd (omega (arith, ranks, early, some))) (λ apart. outside mark (apart mark (under-append (folder_of (Vector k)) (success_name ∷ [])))) (same_or_apart (Vector k) place few is_there)

pub conf_later : (s t : State) → StandsOutside (folder_of Conf) s t → StandsLater s t
unfolding rank_of
conf_later s t outside = early_later Conf tt (omega arith) s t outside

pub edges_later : (s t : State) → StandsOutside (folder_of Edges) s t → StandsLater s t
unfolding rank_of
edges_later s t outside = early_later Edges tt (omega arith) s t outside

pub nodes_later : (s t : State) → StandsOutside (folder_of Nodes) s t → StandsLater s t
unfolding rank_of
nodes_later s t outside = early_later Nodes tt (omega arith) s t outside

pub matrix_later : (s t : State) → StandsOutside (folder_of Matrix) s t → StandsLater s t
unfolding rank_of
matrix_later s t outside = early_later Matrix tt (omega arith) s t outside

pub first_later : (s t : State) → StandsOutside (folder_of (Vector 0)) s t → StandsLater s t
unfolding rank_of
first_later s t outside = early_later (Vector 0) (omega arith) (omega arith) s t outside

pub same_later : (s t : State) → t ≡ s → StandsLater s t
same_later s t same k some few = ap (λ (u : State). u (success_of (folder_of (Vector k)))) same

pub later_then : (r s t : State) → StandsLater r s → StandsLater s t → StandsLater r t
later_then r s t first second k some few = second k some few ∙ first k some few

-- ---- marks

pub sure_marked : (place : Place) (s : State) → IsSound s → IsSure place s → IsSome (mark_of place s)
sure_marked place s sound sure = sure (mark_of place s) (sound (success_of (folder_of place)))

pub unmarked_none : (place : Place) (s : State) → IsSound s → IsUnmarked (folder_of place) s → mark_of place s ≡ None
unmarked_none place s sound unmarked = unmarked (mark_of place s) (sound (success_of (folder_of place)))

not_some : (content : Content) → (IsSome content → ⊥) → content ≡ None
not_some None no_bytes = refl
not_some (Some bytes) no_bytes = absurd (no_bytes refl)

-- ---- the greatest iteration up to which all are whole

pub reached_greatest : (most k : ℕ) (s : State) → IsSound s → k ≤ most → ((j : ℕ) → j ≤ k → IsSure (Vector j) s) → (k < most → IsUnmarked (folder_of (Vector (k + 1))) s) → IsGreatest most s k
reached_greatest most k s sound few sure last = record {
  few = few;
  whole = λ j below. sure_marked (Vector j) s sound (sure j below);
  last = λ less. unmarked_none (Vector (k + 1)) s sound (last less);
}

-- one more iteration is whole
pub up_to : (k : ℕ) (s : State) → ((j : ℕ) → j ≤ k → IsSure (Vector j) s) → IsSure (Vector (k + 1)) s → (j : ℕ) → j ≤ k + 1 → IsSure (Vector j) s
up_to k s before one j below =
    ⊎_elim (λ less. before j (omega (arith, less))) (λ last. subst (λ (i : ℕ). IsSure (Vector i) s) (let is : k + 1 ≡ j = omega (arith, last, below) in is) one) (cases_lt j (k + 1))

not_below : (most j k : ℕ) (s : State) → IsGreatest most s j → IsGreatest most s k → j < k → ⊥
not_below most j k s first second less =
    some_is_there (mark_of (Vector (j + 1)) s) (second.whole (j + 1) (omega (arith, less))) (first.last (let few = second.few in omega (arith, less, few)))

pub one_greatest : (most j k : ℕ) (s : State) → IsGreatest most s j → IsGreatest most s k → j ≡ k
one_greatest most j k s first second =
    ⊎_elim (λ less. absurd (not_below most j k s first second less)) (λ over. ⊎_elim (λ less. absurd (not_below most k j s second first less)) (λ under. omega (arith, over, under)) (cases_lt k j)) (cases_lt j k)

-- ---- what is whole when a run begins is so when it says where it goes on

pub settled_mark : (place : Place) (s t : State) → IsSettled s t → mark_of place t ≡ mark_of place s
settled_mark place s t settled = ap (λ (h : Held). h.now) (settled (success_of (folder_of place)))

greatest_moved : (most k : ℕ) (s t : State) → ((j : ℕ) → j ≤ k + 1 → j ≤ most → mark_of (Vector j) t ≡ mark_of (Vector j) s) → IsGreatest most s k → IsGreatest most t k
greatest_moved most k s t same greatest = record {
  few = greatest.few;
  whole = λ j below. subst IsSome (sym (same j (omega (arith, below)) (let few = greatest.few in omega (arith, below, few)))) (greatest.whole j below);
  last = λ less. same (k + 1) (omega arith) (omega (arith, less)) ∙ greatest.last less;
}

pub from_settled : (most : ℕ) (s t : State) (k : Option ℕ) → IsSettled s t → IsFrom most s k → IsFrom most t k
from_settled most s t None settled none = settled_mark (Vector 0) s t settled ∙ none
from_settled most s t (Some k) settled greatest =
    greatest_moved most k s t (λ j below few. settled_mark (Vector j) s t settled) greatest

pub from_again : (most : ℕ) (s t : State) (k : Option ℕ) → most < 10 ^ 10 → IsSound s → IsSound t → IsSure (Vector 0) s → IsSure (Vector 0) t → StandsLater s t → IsFrom most s k → IsFromThere true most t k
from_again most s t None small sound sound_then sure sure_then later none =
    some_is_there (mark_of (Vector 0) s) (sure_marked (Vector 0) s sound sure) none
from_again most s t (Some k) small sound sound_then sure sure_then later greatest = record {
  few = greatest.few;
  whole = whole;
  last = λ less. ap (λ (h : Held). h.now) (later (k + 1) (omega arith) (omega (arith, less, small))) ∙ greatest.last less;
}
  where
    whole : (j : ℕ) → j ≤ k → IsSome (mark_of (Vector j) t)
    whole j below =
        ⊎_elim (λ none. subst (λ (i : ℕ). IsSome (mark_of (Vector i) t)) (let is : 0 ≡ j = omega (arith, none) in is) (sure_marked (Vector 0) t sound_then sure_then)) (λ some. subst IsSome (sym (ap (λ (h : Held). h.now) (later j some (let few = greatest.few in omega (arith, below, few, small))))) (greatest.whole j below)) (cases_lt j 1)

-- where the first iteration isn't whole, no later one is
no_second : (mining : Mining) (s : State) → IsSound s → AllKept mining s → mark_of (Vector 0) s ≡ None → mark_of (Vector 1) s ≡ None
unfolding rank_of
no_second mining s sound kept none =
    let image : Image = λ q. (s q).now in
    let here : Kept mining image = kept image sound in
    not_some (mark_of (Vector 1) s) (λ has. some_is_there (mark_of (Vector 0) s) (here.order (Vector 1) (Vector 0) (omega arith) refl (before (here.bounds (Vector 1) (omega arith) has)) has) none)
  where
    up_to : (last : Option ℕ) → IfSome last (λ l. 1 ≤ l) → IfSome last (λ l. 0 ≤ l)
    up_to None some = some
    up_to (Some l) some = omega arith

    before : IfSome (last_of mining) (λ l. 1 ≤ l) → Precedes mining (Vector 0) (Vector 1)
    before some = record { before = omega arith; is_there = omega arith; made = refl; stays = refl; up_to = up_to (last_of mining) some }

pub from_afresh : (mining : Mining) (most : ℕ) (s t : State) (k : Option ℕ) → IsSound s → AllKept mining s → IsUnmarked (folder_of (Vector 0)) s → StandsLater s t → IsFrom most s k → IsFromThere false most t k
from_afresh mining most s t None sound kept unmarked later none =
    ap (λ (h : Held). h.now) (later 1 (omega arith) (omega arith)) ∙ no_second mining s sound kept none
from_afresh mining most s t (Some k) sound kept unmarked later greatest =
    absurd (some_is_there (mark_of (Vector 0) s) (greatest.whole 0 (omega arith)) (unmarked_none (Vector 0) s sound unmarked))

-- what holds where a run goes on after an iteration, or begins afresh
pub if_again : (most : ℕ) (s : State) (k : Option ℕ) (P : Option ℕ → Type 0) → ((j : ℕ) → IsGreatest most s j → P (Some j)) → IsFromThere true most s k → P k
if_again most s None P each from = absurd from
if_again most s (Some k) P each from = each k from

pub if_afresh : (most : ℕ) (s : State) (k : Option ℕ) (P : Option ℕ → Type 0) → (mark_of (Vector 1) s ≡ None → P None) → IsFromThere false most s k → P k
if_afresh most s None P each from = each from
if_afresh most s (Some k) P each from = absurd from

-- ---- what is said

none_added : (said : Option (List ℕ)) → said ≡ added said []
none_added None = refl
none_added (Some bytes) = ap Some (sym (append-nil bytes))

-- nothing is a part of any text
pub nothing_part : (before now : Option (List ℕ)) (text : List ℕ) → now ≡ before → AddsPart before now text
nothing_part before now text same = record { len = 0; is = same ∙ none_added before }

pub console_is : (mining : Mining) (k : Option ℕ) (last : ℕ) → from_text mining k ++ console_after mining (unwrap_or k 0) last ≡ console mining k last
console_is mining None last = refl
console_is mining (Some k) last = refl

pub from_there : (mining : Mining) (most : ℕ) (s t : State) (k : Option ℕ) (had : Bool) → most < 10 ^ 10 → IsSound s → IsSound t → AllKept mining s → (had ≡ true → IsSure (Vector 0) s) → (had ≡ false → IsUnmarked (folder_of (Vector 0)) s) → IsSure (Vector 0) t → StandsLater s t → IsFrom most s k → IsFromThere had most t k
from_there mining most s t k true small sound sound_then kept has has_not sure later from =
    from_again most s t k small sound sound_then (has refl) sure later from
from_there mining most s t k false small sound sound_then kept has has_not sure later from =
    from_afresh mining most s t k sound kept (has_not refl) later from

-- all was said from where the run goes on
pub has_run : (mining : Mining) (k : Option ℕ) (j : ℕ) (before mid now : Option (List ℕ)) (state : State) → j ≡ unwrap_or k 0 → mid ≡ added before (from_text mining k) → IsDone mining j mid now state → HasRun mining k before now state
has_run mining k j before mid now state is first done = record {
  last = done.last;
  is = done.is;
  said = all_then before mid now (from_text mining k) (console_after mining (unwrap_or k 0) done.last) first (subst (λ (i : ℕ). now ≡ added mid (console_after mining i done.last)) is done.said) ∙ ap (added before) (console_is mining k done.last);
  vector = done.vector;
  result = done.result;
}

-- ---- vectors that are whole stay so

pub looked_firm : (d e : Told) → Through (Both (IsAsAt (files d))) d e → AllFirm (files d) → AllFirm (files e)
looked_firm d e looks firm place is_there =
    firm_same place (files d) (files e) (same_after d e looks (success_of (folder_of place))) (firm place is_there)

pub looked_sure : (place : Place) (d e : Told) → Through (Both (IsAsAt (files d))) d e → IsSure place (files d) → IsSure place (files e)
looked_sure place d e looks sure =
    sure_same place (files d) (files e) (same_after d e looks (success_of (folder_of place))) sure

has_both : (place : Place) (s t : State) (image : Image) → IsSure place s → IsSure place t → FitsEither s t image → Has place image
has_both place s t image before after fits =
    let mark = success_of (folder_of place) in
    ⊎_elim (before (image mark)) (after (image mark)) (fits mark)

vector_not_conf : (k : ℕ) → Vector k ≡ Conf → ⊥
unfolding rank_of
vector_not_conf k same = let ranks = ap rank_of same in omega (arith, ranks)

vector_still : (k : ℕ) (r s : State) → k < 10 ^ 10 → KeepsFinished r s → IsSure (Vector k) r → IsSure (Vector k) s
vector_still k r s few keeps sure =
    sure_still (Vector k) r s few refl (λ other. absurd (vector_not_conf k other)) keeps sure

pub finished_vectors : (d e : Told) → Through (Both (KeepsFinished (files d))) d e → Through (Both (KeepsVectors (files d))) d e
finished_vectors d e steps =
    weaker (Both (KeepsFinished (files d))) (Both (KeepsVectors (files d))) d e (λ s t both. (λ k few sure. vector_still k (files d) s few both.0 sure, λ k few sure. vector_still k (files d) t few both.1 sure)) steps

pub settling_vectors : (d e : Told) → Through (EachImage (Fits (files d))) d e → Through (EachImage (HasVectors (files d))) d e
settling_vectors d e steps =
    weaker (EachImage (Fits (files d))) (EachImage (HasVectors (files d))) d e (λ s t each image fits k few sure. let mark = success_of (folder_of (Vector k)) in sure (image mark) (each image fits mark)) steps

pub run_vectors : (d e f : Told) → IsSound (files d) → Through (EachImage (HasVectors (files d))) d e → IsSettled (files d) (files e) → Through (Both (KeepsFinished (files e))) e f → Through (EachImage (HasVectors (files d))) d f
run_vectors d e f sound first settled steps =
    then_goes (EachImage (HasVectors (files d))) d e f first (weaker (Both (KeepsFinished (files e))) (EachImage (HasVectors (files d))) e f (λ s t both image fits k few sure. let there = sure_settled (Vector k) (files d) (files e) sound settled sure in has_both (Vector k) s t image (vector_still k (files e) s few both.0 there) (vector_still k (files e) t few both.1 there) fits) steps)

-- ---- nothing was acknowledged yet

none_contained : {X : Type 0} (x : X) → Contains [] x → ⊥
none_contained x has = omega (arith, has.1)

pub acks_begun : (had : List Say) (d e : Told) (says : Option (List Say)) → says ≡ Some had → Acks had d e says
acks_begun had d e says is = record {
  gained = [];
  is = is ∙ ap Some (sym (append-nil had));
  whole = λ moment from to k acked. absurd (none_contained acked.say acked.made);
  sure = λ clock k acked. absurd (none_contained acked.say acked.made);
}
