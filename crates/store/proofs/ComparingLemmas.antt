-- How far a file was compared with a text, piece by piece.
use Rattle.std.proofs.Common.{◌≡◌, ℕ, ◌+◌, ◌<◌, ◌≤◌, true, List, [], ◌++◌, Option, Some, None, Result, Ok, Err, IfOk, length, take, drop, sym, ap, ◌∙◌, subst, arith}
use Rattle.std.specs.Option.{is_some}
use Rattle.std.proofs.Math.Seq.{take-add}
use Rattle.std.proofs.lemmas.Bool.{false≢true}
use Rattle.dir_disk.specs.State.{Content, bytes_of}
use Rattle.dir_disk.specs.Calls.{IsLength}
use Rattle.std.proofs.lemmas.List.{append-nil, append_assoc, take-append-drop, take_all, length-append, length-take-le}
use Rattle.splits.proofs.CutLemmas.{whole-append}
use Rattle.store.specs.declared.comparing.Compared.{Compared}
use Rattle.store.specs.Differing.{lfs, common, IsDifferingLine, DiffersFrom}
use Rattle.store.specs.Comparing.{IsSame, IsParted}
use Rattle.store.proofs.CommonLemmas.{common-append, common-front, common-self}

some_is_none : {A : Type 0} {x : A} → Some x ≡ None → ⊥
some_is_none e = cc

-- the file is the text so far, and then what stands from the place on
pub file_is : (file text : List ℕ) (c : Compared) → IsSame file text c → file ≡ text ++ drop c.place file
file_is file text c same = sym (take-append-drop c.place file) ∙ ap (λ l. l ++ drop c.place file) same.front

pub same_more : (file text more : List ℕ) (old new : Compared) (count : ℕ) → IsSame file text old → take count (drop old.place file) ≡ more → count ≡ length more → new.place ≡ old.place + count → new.line ≡ old.line + lfs more → IsSame file (text ++ more) new
same_more file text more old new count same next len place line =
    record {
      place = omega (arith, same.place, length-append text more);
      front = ap (λ n. take n file) place ∙ take-add old.place count file ∙ ap (λ l. l ++ take count (drop old.place file)) same.front ∙ ap (λ l. text ++ l) next;
      line = omega (arith, same.line, line, whole-append text more);
    }

-- the same where the text is said as a front of another one
pub same_further : (file before text : List ℕ) (old new : Compared) (done count : ℕ) → IsSame file (before ++ take done text) old → take count (drop old.place file) ≡ take count (drop done text) → count ≤ length (drop done text) → new.place ≡ old.place + count → new.line ≡ old.line + lfs (take count (drop done text)) → IsSame file (before ++ take (done + count) text) new
same_further file before text old new done count same next few place line =
    let more : List ℕ = take count (drop done text) in
    let whole : (before ++ take done text) ++ more ≡ before ++ take (done + count) text = append_assoc before (take done text) more ∙ ap (λ l. before ++ l) (sym (take-add done count text)) in
    subst (λ l. IsSame file l new) whole (same_more file (before ++ take done text) more old new count same next (sym (length-take-le count (drop done text) few)) place line)

-- the text goes on otherwise than the file
pub parted_here : (file text more : List ℕ) (c : Compared) → IsSame file text c → common (drop c.place file) more ≡ [] → 1 ≤ length more → IsParted file (text ++ more) c
parted_here file text more c same none some =
    let is : common file (text ++ more) ≡ text = ap (λ l. common l (text ++ more)) (file_is file text c same) ∙ common-append text (drop c.place file) more ∙ ap (λ l. text ++ l) none ∙ append-nil text in
    record {
      no_front = λ all. absurd (omega (arith, some, ap length (sym is ∙ all), length-append text more));
      line = same.line ∙ ap (λ l. lfs l + 1) (sym is);
    }

pub parted_further : (file before text : List ℕ) (c : Compared) (done : ℕ) → IsSame file (before ++ take done text) c → common (drop c.place file) (drop done text) ≡ [] → 1 ≤ length (drop done text) → IsParted file (before ++ text) c
parted_further file before text c done same none some =
    let whole : (before ++ take done text) ++ drop done text ≡ before ++ text = append_assoc before (take done text) (drop done text) ∙ ap (λ l. before ++ l) (take-append-drop done text) in
    subst (λ l. IsParted file l c) whole (parted_here file (before ++ take done text) (drop done text) c same none some)

-- a step that found nothing in common changed nothing
pub same_still : (file text : List ℕ) (old new : Compared) → IsSame file text old → new.place ≡ old.place → new.line ≡ old.line → IsSame file text new
same_still file text old new same place line =
    record { place = place ∙ same.place; front = ap (λ n. take n file) place ∙ same.front; line = line ∙ same.line }

-- the file ends where the text does
pub ended_same : (file text : List ℕ) (c : Compared) → IsSame file text c → length file ≤ c.place → file ≡ text
ended_same file text c same ended = sym (take_all c.place file ended) ∙ same.front

-- the file goes on behind the text
pub longer : (file text : List ℕ) (c : Compared) → IsSame file text c → c.place < length file → IsDifferingLine file text (Some c.line)
longer file text c same more = (
  λ all. absurd (omega (arith, same.place, ap length all)),
  same.line ∙ ap (λ l. lfs l + 1) (sym (ap (λ l. common l text) (file_is file text c same) ∙ common-front text (drop c.place file))),
)

-- ---- the whole comparison

pub sized_there : (content : Content) (size : Option ℕ) → IsLength content size → is_some size ≡ true → (bytes : List ℕ) × (content ≡ Some bytes)
sized_there content None len some = absurd (false≢true some)
sized_there content (Some n) len some = (len.0, len.1)

pub differs_from : (content : Content) (text : List ℕ) (found : Option ℕ) → ((bytes : List ℕ) × (content ≡ Some bytes)) → IsDifferingLine (bytes_of content) text found → DiffersFrom content text found
differs_from None text found there differs = absurd (some_is_none (sym there.1))
differs_from (Some bytes) text found there differs = differs

pub differs_if_ok : {E : Type 0} (content : Content) (text : List ℕ) (result : Result (Option ℕ) E) → ((bytes : List ℕ) × (content ≡ Some bytes)) → IfOk result (IsDifferingLine (bytes_of content) text) → IfOk result (DiffersFrom content text)
differs_if_ok content text (Ok found) there differs = differs_from content text found there differs
differs_if_ok content text (Err fault) there differs = tt

pub parted_differs : (file text : List ℕ) (c : Compared) → IsParted file text c → IsDifferingLine file text (Some c.line)
parted_differs file text c parted =
    (λ all. parted.no_front (ap (λ l. common l text) all ∙ common-self text), parted.line)

-- before the first byte
pub begun_same : (file : List ℕ) (c : Compared) → c.place ≡ 0 → c.line ≡ 1 → IsSame file [] c
begun_same file c place line =
    record { place = place; front = ap (λ n. take n file) place; line = line }
