-- The settings and the edges are written where no edges are there.
use Rattle.std.proofs.Common.{arith, ◌≡◌, ◌∷◌, [], IfSome, List, ℕ, None, Some, ⊎_elim, refl, ap, subst}
use Rattle.std.specs.Prelude.{Option, Result, Ok, Err, OnOk, is_some}
use Rattle.peg_base.proofs.Under.{under-append}
use Rattle.dir_disk.specs.State.{Allows, Held, IsSound, StandsOutside}
use Rattle.dir_disk.specs.Moments.{Both, EachImage, Through, Told, files}
use Rattle.dir_disk.proofs.Through.{then_goes, weaker}
use Rattle.edge_text.specs.Edges.{text_of as edges_text}
use Rattle.committer.specs.Folders.{IsUnmarked, fixed}
use Rattle.committer.specs.Paths.{success_name, success_of}
use Rattle.conf.specs.Texts.{text_of}
use Rattle.mining.specs.declared.place.Place.TheVariants.{Conf, Edges}
use Rattle.mining.specs.Places.{folder_of, rank_of}
use Rattle.mining.specs.Flow.{Mining}
use Rattle.mining.specs.Kept.{AllKept, Kept}
use Rattle.mining.specs.Between.{AllFirm, IsSure}
use Rattle.mining.proofs.Names.{AreApart, same_or_apart}
use Rattle.mining.proofs.Keeping.{conf_keeps}
use Rattle.mining.proofs.EnsureLemmas.{firm_after, firm_fixed, firm_whole, kept_after}
use Rattle.store.specs.Sealed.{IsMade, Makes}
use Rattle.driver.proofs.Settling.{same_keeps}
use Rattle.driver.proofs.Due.{due_edges, loose_edges}
use Rattle.driver.proofs.Sealing.{made_firm, outside_after, seals_keep}

edges_apart : AreApart Edges Conf
unfolding rank_of
edges_apart =
    ⊎_elim (λ same. absurd (let ranks = ap rank_of same in omega (arith, ranks))) (λ apart. apart) (same_or_apart Edges Conf tt tt)

pub edges_unmarked : (d e : Told) → Through (Both (StandsOutside (folder_of Conf) (files d))) d e → IsUnmarked (folder_of Edges) (files d) → IsUnmarked (folder_of Edges) (files e)
edges_unmarked d e outside unmarked content allowed =
    let mark = success_of (folder_of Edges) in
    unmarked content (subst (λ (h : Held). Allows h.may content) (outside_after (folder_of Conf) d e outside mark (edges_apart mark (under-append (folder_of Edges) (success_name ∷ [])))) allowed)

conf_step : (mining : Mining) (d e : Told) → IsSound (files d) → AllKept mining (files d) → IsUnmarked (folder_of Edges) (files d) → Through (Both (StandsOutside (folder_of Conf) (files d))) d e → Through (EachImage (Kept mining)) d e
conf_step mining d e sound kept unmarked outside =
    weaker (Both (StandsOutside (folder_of Conf) (files d))) (EachImage (Kept mining)) d e (λ s t stands. conf_keeps mining (files d) s t sound kept unmarked stands) outside

pub if_told : (P : List ℕ → Type 0) (left : Option (List ℕ)) → ((bytes : List ℕ) → P bytes) → IfSome left P
if_told P None all = tt
if_told P (Some bytes) all = all bytes

pub both_told : (P Q : List ℕ → Type 0) (left : Option (List ℕ)) → ((bytes : List ℕ) → P bytes → Q bytes) → IfSome left P → IfSome left Q
both_told P Q None weak p = tt
both_told P Q (Some bytes) weak p = weak bytes p

pub conf_kept : (mining : List ℕ → Mining) (left : Option (List ℕ)) (tells : Type 0) (d e : Told) → (tells → IsSound (files d)) → (tells → IsUnmarked (folder_of Edges) (files d)) → (tells → Through (Both (StandsOutside (folder_of Conf) (files d))) d e) → IfSome left (λ bytes. tells → AllKept (mining bytes) (files d) → Through (EachImage (Kept (mining bytes))) d e)
conf_kept mining left tells d e sound unmarked outside =
    if_told (λ bytes. tells → AllKept (mining bytes) (files d) → Through (EachImage (Kept (mining bytes))) d e) left (λ bytes told kept. conf_step (mining bytes) d e (sound told) kept (unmarked told) (outside told))

pub begun_kept : (mining : List ℕ → Mining) (left : Option (List ℕ)) (tells : Type 0) (d e f : Told) → (tells → IsSound (files d)) → (tells → IsSound (files e)) → (tells → IsUnmarked (folder_of Edges) (files d)) → (tells → Through (Both (StandsOutside (folder_of Conf) (files d))) d e) → ((bytes : List ℕ) → tells → IsMade (folder_of Conf) (text_of (mining bytes).conf) (files e)) → (tells → IfSome left (λ bytes. Through (Makes (folder_of Edges) (edges_text (mining bytes).edges) (files e)) e f)) → IfSome left (λ bytes. tells → AllKept (mining bytes) (files d) → Through (EachImage (Kept (mining bytes))) d f)
begun_kept mining None tells d e f sound sound_then unmarked outside made steps = tt
begun_kept mining (Some bytes) tells d e f sound sound_then unmarked outside made steps =
    λ told kept.
    let m : Mining = mining bytes in
    let first : Through (EachImage (Kept m)) d e = conf_step m d e (sound told) kept (unmarked told) (outside told) in
    then_goes (EachImage (Kept m)) d e f first (seals_keep m Edges (edges_text m.edges) e f (sound_then told) refl refl (kept_after m d e kept first) (due_edges m (files e) (made bytes told)) (loose_edges m (files e) (edges_unmarked d e (outside told) (unmarked told)) (made bytes told)) (steps told))

pub begun_firm : {E : Type 0} (text : List ℕ) (d e f : Told) (result : Result (Unit {0}) E) → AllFirm (files d) → Through (Both (StandsOutside (folder_of Conf) (files d))) d e → IsMade (folder_of Conf) text (files e) → Through (Both (StandsOutside (folder_of Edges) (files e))) e f → OnOk result (files f (success_of (folder_of Edges)) ≡ fixed (Some [])) → OnOk result (AllFirm (files f))
begun_firm text d e f (Err error) firm outside made steps whole = tt
begun_firm text d e f (Ok value) firm outside made steps whole =
    firm_after Edges (files e) (files f) (Some []) tt (made_firm Conf text (files d) (files e) tt firm (outside_after (folder_of Conf) d e outside) made) (outside_after (folder_of Edges) e f steps) whole

pub begun_sure : {E : Type 0} (f : Told) (result : Result (Unit {0}) E) → OnOk result (files f (success_of (folder_of Edges)) ≡ fixed (Some [])) → OnOk result (IsSure Edges (files f))
begun_sure f (Err error) whole = tt
begun_sure f (Ok value) whole =
    firm_whole Edges (files f) (firm_fixed Edges (files f) (Some []) whole) (ap (λ (h : Held). is_some h.now) whole)

pub taken_kept_else : (mining : List ℕ → Mining) (left : Option (List ℕ)) (tells : Type 0) (d e f : Told) → (tells → Through (Both (λ s. s ≡ files d)) d e) → IfSome left (λ bytes. tells → AllKept (mining bytes) (files e) → Through (EachImage (Kept (mining bytes))) e f) → IfSome left (λ bytes. tells → AllKept (mining bytes) (files d) → Through (EachImage (Kept (mining bytes))) d f)
taken_kept_else mining left tells d e f looks second =
    both_told (λ bytes. tells → AllKept (mining bytes) (files e) → Through (EachImage (Kept (mining bytes))) e f) (λ bytes. tells → AllKept (mining bytes) (files d) → Through (EachImage (Kept (mining bytes))) d f) left (λ bytes rest told kept. let first = same_keeps (mining bytes) d e kept (looks told) in then_goes (EachImage (Kept (mining bytes))) d e f first (rest told (kept_after (mining bytes) d e kept first))) second

pub more_kept : (mining : List ℕ → Mining) (left : Option (List ℕ)) (tells : Type 0) (C : Type 0) (d e f : Told) → IfSome left (λ bytes. tells → AllKept (mining bytes) (files d) → Through (EachImage (Kept (mining bytes))) d e) → ((bytes : List ℕ) → tells → AllKept (mining bytes) (files e) → C → Through (EachImage (Kept (mining bytes))) e f) → IfSome left (λ bytes. tells → AllKept (mining bytes) (files d) → C → Through (EachImage (Kept (mining bytes))) d f)
more_kept mining left tells C d e f first second =
    both_told (λ bytes. tells → AllKept (mining bytes) (files d) → Through (EachImage (Kept (mining bytes))) d e) (λ bytes. tells → AllKept (mining bytes) (files d) → C → Through (EachImage (Kept (mining bytes))) d f) left (λ bytes one told kept given. let through = one told kept in then_goes (EachImage (Kept (mining bytes))) d e f through (second bytes told (kept_after (mining bytes) d e kept through) given)) first

-- one run of calls after another, under a premise of both
pub first_then : (mining : List ℕ → Mining) (left : Option (List ℕ)) (tells : Type 0) (C : Type 0) (d e f : Told) → ((bytes : List ℕ) → tells → AllKept (mining bytes) (files d) → Through (EachImage (Kept (mining bytes))) d e) → IfSome left (λ bytes. tells → AllKept (mining bytes) (files e) → C → Through (EachImage (Kept (mining bytes))) e f) → IfSome left (λ bytes. tells → AllKept (mining bytes) (files d) → C → Through (EachImage (Kept (mining bytes))) d f)
first_then mining left tells C d e f first second =
    both_told (λ bytes. tells → AllKept (mining bytes) (files e) → C → Through (EachImage (Kept (mining bytes))) e f) (λ bytes. tells → AllKept (mining bytes) (files d) → C → Through (EachImage (Kept (mining bytes))) d f) left (λ bytes rest told kept given. let through = first bytes told kept in then_goes (EachImage (Kept (mining bytes))) d e f through (rest told (kept_after (mining bytes) d e kept through) given)) second

pub then_last : (mining : List ℕ → Mining) (left : Option (List ℕ)) (tells : Type 0) (C : Type 0) (d e f : Told) → IfSome left (λ bytes. tells → AllKept (mining bytes) (files d) → C → Through (EachImage (Kept (mining bytes))) d e) → ((bytes : List ℕ) → tells → AllKept (mining bytes) (files e) → C → Through (EachImage (Kept (mining bytes))) e f) → IfSome left (λ bytes. tells → AllKept (mining bytes) (files d) → C → Through (EachImage (Kept (mining bytes))) d f)
then_last mining left tells C d e f first second =
    both_told (λ bytes. tells → AllKept (mining bytes) (files d) → C → Through (EachImage (Kept (mining bytes))) d e) (λ bytes. tells → AllKept (mining bytes) (files d) → C → Through (EachImage (Kept (mining bytes))) d f) left (λ bytes one told kept given. let through = one told kept given in then_goes (EachImage (Kept (mining bytes))) d e f through (second bytes told (kept_after (mining bytes) d e kept through) given)) first
