-- Where the first line of a split begins.
use Rattle.std.proofs.Common.{◌≡◌, ◌≢◌, ℕ, zero, suc, ◌+◌, ◌-◌, ◌<◌, ◌≤◌, ◌⊎◌, List, [], ◌∷◌, ◌++◌, length, get_or, take, drop, min, Option, Some, None, Result, refl, sym, ap, ◌∙◌, arith, inl, inr}
use Rattle.std.proofs.lemmas.Bool.{cases_lt, cases_eq, eq-eqb, eqb-true}
use Rattle.std.proofs.lemmas.List.{take_min, take-take, get_or-drop, length-drop, length-take, length-take-le, get_or-take, take-append-drop, drop_more}
use Rattle.memchr.specs.Find.{IsFirstByte, is_byte}
use Rattle.peg_base.specs.Names.{Names}
use Rattle.dir_disk.specs.declared.dir.DirFault.{DirFault}
use Rattle.dir_disk.specs.State.{State, IsSound, bytes_at}
use Rattle.dir_disk.specs.Calls.{Look, Does}
use Rattle.dir_disk.specs.Moments.{Told, Through, Both, files}
use Rattle.dir_disk.proofs.Through.{goes_on, kept}
use Rattle.splits.specs.declared.table.Split.{Split}
use Rattle.splits.specs.Lines.{split_lines}
use Rattle.splits.specs.Copying.{HasNoLfBetween, IsFirstLf, IsLineEnd, BeginsAt, lines_up_to, lines_between}
use Rattle.splits.proofs.LineLemmas.{no_line_behind, lines_above, lines_from_lf, split_lines-first}

-- ---- a part of the file

-- these bytes stand in the file at the place
pub record StandsAt (bytes part : List ℕ) (place : ℕ) : Type 0 where
  pub is : part ≡ take (length part) (drop place bytes)

pub stands_inside : (bytes part : List ℕ) (place : ℕ) → 1 ≤ length part → StandsAt bytes part place → place + length part ≤ length bytes
stands_inside bytes part place some stands =
    let len = ap length stands.is ∙ length-take (length part) (drop place bytes) in
    omega (arith, len, length-drop place bytes)

pub stands_byte : (bytes part : List ℕ) (place k : ℕ) → StandsAt bytes part place → k < length part → get_or part k 0 ≡ get_or bytes (place + k) 0
stands_byte bytes part place k stands inside =
    ap (λ l. get_or l k 0) stands.is ∙ get_or-take (length part) (drop place bytes) k 0 inside ∙ get_or-drop place bytes k 0

-- a front of what was read
pub stands_read : (bytes piece part : List ℕ) (place most : ℕ) → piece ≡ take most (drop place bytes) → part ≡ take (length part) piece → length part ≤ length piece → StandsAt bytes part place
stands_read bytes piece part place most read front short =
    let len = ap length read ∙ length-take most (drop place bytes) in
    record { is = front ∙ ap (take (length part)) read ∙ take-take (length part) most (drop place bytes) (omega (arith, len)) }

-- what a search for an LF in these bytes says of the whole
pub none_found : (bytes part : List ℕ) (place to : ℕ) → StandsAt bytes part place → to ≡ place + length part → IsFirstByte (is_byte 10) part None → HasNoLfBetween bytes place to
none_found bytes part place to stands is none k low high there =
    let at : place + (k - place) ≡ k = omega arith in
    none (k - place) (omega arith) (omega arith) (eq-eqb (get_or part (k - place) 0) 10 (stands_byte bytes part place (k - place) stands (omega arith) ∙ ap (λ i. get_or bytes i 0) at ∙ there))

pub first_found : (bytes part : List ℕ) (place k : ℕ) → StandsAt bytes part place → IsFirstByte (is_byte 10) part (Some k) → IsFirstLf bytes place (place + k)
first_found bytes part place k stands first =
    let inside : k < length part = first.0.high in
    record {
      behind = omega arith;
      inside = omega (arith, stands_inside bytes part place (omega arith) stands);
      is = sym (stands_byte bytes part place k stands inside) ∙ eqb-true (get_or part k 0) 10 first.1;
      unbroken = λ j low high there.
          let at : place + (j - place) ≡ j = omega arith in
          first.0.before (j - place) (omega arith) (omega arith) (eq-eqb (get_or part (j - place) 0) 10 (stands_byte bytes part place (j - place) stands (omega arith) ∙ ap (λ i. get_or bytes i 0) at ∙ there));
    }

-- ---- the first line

-- the next LF, if there is one
pub next_lf : (bytes : List ℕ) (more from : ℕ) → from + more ≡ length bytes → ((lf : ℕ) × IsFirstLf bytes from lf) ⊎ HasNoLfBetween bytes from (length bytes)
next_lf bytes zero from is = inr (λ k low high there. absurd (omega arith))
next_lf bytes (suc more) from is =
    elim (cases_eq (get_or bytes from 0) 10) [
      | inl lf ↦
          inl (from, record { behind = omega arith; inside = omega arith; is = lf; unbroken = λ k low high there. absurd (omega arith) })
      | inr other ↦
          elim (next_lf bytes more (from + 1) (omega arith)) [
            | inl found ↦
                inl (found.0, record { behind = omega (arith, found.1.behind); inside = found.1.inside; is = found.1.is; unbroken = unbroken_more found.0 other found.1.unbroken })
            | inr none ↦ inr (unbroken_more (length bytes) other none)
          ]
    ]
  where
    unbroken_more : (to : ℕ) → get_or bytes from 0 ≢ 10 → HasNoLfBetween bytes (from + 1) to → HasNoLfBetween bytes from to
    unbroken_more to other later k low high there =
        elim (cases_eq k from) [
          | inl here ↦ other (ap (λ i. get_or bytes i 0) (sym here) ∙ there)
          | inr behind ↦ later k (omega arith) high there
        ]

pub split_at_lf : (bytes : List ℕ) (lf : ℕ) → lf < length bytes → get_or bytes lf 0 ≡ 10 → bytes ≡ take lf bytes ++ (10 ∷ drop (lf + 1) bytes)
split_at_lf bytes lf inside is =
    sym (take-append-drop lf bytes) ∙ ap (λ l. take lf bytes ++ l) (drop_more bytes lf 0 inside ∙ ap (λ b. b ∷ drop (lf + 1) bytes) is)

-- the front of bytes has no LF where they have none
pub front_unbroken : (bytes : List ℕ) (from lf : ℕ) → lf ≤ length bytes → HasNoLfBetween bytes from lf → HasNoLfBetween (take lf bytes) from (length (take lf bytes))
front_unbroken bytes from lf inside unbroken k low high there =
    let below : k < lf = omega (arith, length-take-le lf bytes inside) in
    unbroken k low below (sym (get_or-take lf bytes k 0 below) ∙ there)

-- a split with no LF in it has no line
pub no_line : (bytes : List ℕ) (split : Split) → 0 < split.start → HasNoLfBetween bytes split.start (min split.end (length bytes)) → split_lines split bytes ≡ []
no_line bytes split some unbroken =
    elim (cases_lt (length bytes) split.start) [
      | inl behind ↦ no_line_behind split bytes some (λ k low high there. omega arith)
      | inr inside ↦
          elim (next_lf bytes (length bytes - split.start) split.start (omega arith)) [
            | inl found ↦ above found.0 found.1 (cases_lt found.0 split.end)
            | inr none ↦ no_line_behind split bytes some none
          ]
    ]
  where
    above : (lf : ℕ) → IsFirstLf bytes split.start lf → (lf < split.end) ⊎ (split.end ≤ lf) → split_lines split bytes ≡ []
    above lf first (inl early) =
        absurd (unbroken lf first.behind (omega (arith, first.inside)) first.is)
    above lf first (inr late) =
        let inside : lf ≤ length bytes = omega (arith, first.inside) in
        ap (split_lines split) (split_at_lf bytes lf first.inside first.is) ∙ lines_above split (take lf bytes) (drop (lf + 1) bytes) some (front_unbroken bytes split.start lf inside first.unbroken) (omega (arith, length-take-le lf bytes inside))

-- behind the first LF in a split its first line begins
pub lines_behind : (bytes : List ℕ) (split : Split) (lf : ℕ) → 0 < split.start → IsFirstLf bytes split.start lf → lf < split.end → split_lines split bytes ≡ lines_between (lf + 1) split.end bytes
lines_behind bytes split lf some first early =
    let inside : lf ≤ length bytes = omega (arith, first.inside) in
    let len = length-take-le lf bytes inside in
    ap (split_lines split) (split_at_lf bytes lf first.inside first.is) ∙ lines_from_lf split (take lf bytes) (drop (lf + 1) bytes) some (omega (arith, len, first.behind)) (front_unbroken bytes split.start lf inside first.unbroken) (omega (arith, len)) ∙ ap (λ n. lines_up_to (split.end - (n + 1)) (drop (lf + 1) bytes)) len

-- what was found in the split alone
pub begins_at : (bytes : List ℕ) (split : Split) (found : Option ℕ) → 0 < split.start → IsLineEnd (take split.end bytes) split.start found → BeginsAt bytes split found
begins_at bytes split None some unbroken =
    no_line bytes split some (λ k low high there. unbroken k low (omega (arith, high, length-take split.end bytes)) (get_or-take split.end bytes k 0 (omega (arith, high)) ∙ there))
begins_at bytes split (Some from) some ends =
    let lf : ℕ = from - 1 in
    let first = ends.1 in
    let len = length-take split.end bytes in
    let early : lf < split.end = omega (arith, len, first.inside) in
    let inside : lf < length bytes = omega (arith, len, first.inside) in
    let next : lf + 1 ≡ from = omega (arith, ends.0) in
    let whole : IsFirstLf bytes split.start lf = record {
      behind = first.behind;
      inside = inside;
      is = sym (get_or-take split.end bytes lf 0 early) ∙ first.is;
      unbroken = λ k low high there. first.unbroken k low high (get_or-take split.end bytes k 0 (omega arith) ∙ there);
    } in (
      omega (arith, ends.0),
      omega (arith, ends.0),
      lines_behind bytes split lf some whole early ∙ ap (λ n. lines_between n split.end bytes) next,
    )

-- the first split begins with the file
pub begins_first : (bytes : List ℕ) (split : Split) → split.start ≡ 0 → BeginsAt bytes split (Some 0)
begins_first bytes split first =
    let whole : split.end ≡ split.end - 0 = omega arith in
    (omega arith, omega arith, split_lines-first split bytes first ∙ ap (λ n. lines_up_to n bytes) whole)

-- ---- the search for it, piece by piece

pub stands_whole : (bytes piece : List ℕ) (place most : ℕ) → piece ≡ take most (drop place bytes) → StandsAt bytes piece place
stands_whole bytes piece place most read =
    let len = ap length read ∙ length-take most (drop place bytes) in
    record { is = read ∙ sym (take_min most (drop place bytes)) ∙ ap (λ n. take n (drop place bytes)) (sym len) }

-- where nothing is read the file has ended
pub read_end : (bytes piece : List ℕ) (place most : ℕ) → piece ≡ take most (drop place bytes) → 1 ≤ most → length piece ≡ 0 → length bytes ≤ place
read_end bytes piece place most read some none =
    let len = ap length read ∙ length-take most (drop place bytes) in
    omega (arith, len, length-drop place bytes)

pub searched_more : (bytes : List ℕ) (from place next : ℕ) → HasNoLfBetween bytes from place → HasNoLfBetween bytes place next → HasNoLfBetween bytes from next
searched_more bytes from place next before after k low high there =
    elim (cases_lt k place) [ inl early ↦ before k low early there | inr late ↦ after k late high there ]

pub none_up_to : (bytes : List ℕ) (from end place : ℕ) → HasNoLfBetween bytes from place → min end (length bytes) ≤ place → IsLineEnd (take end bytes) from None
none_up_to bytes from end place unbroken far k low high there =
    let len = length-take end bytes in
    unbroken k low (omega (arith, len)) (sym (get_or-take end bytes k 0 (omega (arith, len))) ∙ there)

pub first_up_to : (bytes : List ℕ) (from end place lf next : ℕ) → HasNoLfBetween bytes from place → from ≤ place → IsFirstLf bytes place lf → lf < end → next ≡ lf + 1 → IsLineEnd (take end bytes) from (Some next)
first_up_to bytes from end place lf next unbroken ordered first early is =
    let whole : HasNoLfBetween bytes from lf = searched_more bytes from place lf unbroken first.unbroken in
    let last : next - 1 ≡ lf = omega arith in (
      omega arith,
      record {
        behind = omega (arith, first.behind);
        inside = omega (arith, first.inside, length-take end bytes);
        is = ap (λ i. get_or (take end bytes) i 0) last ∙ get_or-take end bytes lf 0 early ∙ first.is;
        unbroken = λ k low high there. whole k low (omega arith) (sym (get_or-take end bytes k 0 (omega arith)) ∙ there);
      },
    )

-- a look more changes nothing
pub looked_more : {T : Type 0} (path : Names) (a b c : Told) (result : Result T DirFault) → Through (Both (λ state. state ≡ files a)) a b → Does (Look path) b c result → IsSound (files b) → Through (Both (λ state. state ≡ files a)) a c
looked_more path a b c result so_far does sound =
    let same : files b ≡ files a = kept (λ state. state ≡ files a) a b so_far refl in
    goes_on (Both (λ state. state ≡ files a)) a b c (Look path) result so_far does sound (λ t steps. (same, (λ i q. steps.others q refl i) ∙ same))

-- what is read then is what was there before
pub read_before : (path : Names) (a b : Told) (piece : List ℕ) (place most : ℕ) → Through (Both (λ state. state ≡ files a)) a b → piece ≡ take most (drop place (bytes_at (files b) path)) → piece ≡ take most (drop place (bytes_at (files a) path))
read_before path a b piece place most so_far read =
    read ∙ ap (λ (s : State). take most (drop place (bytes_at s path))) (kept (λ state. state ≡ files a) a b so_far refl)
