use Rattle.std.proofs.Common.{◌++◌, ◌<◌, List, [], ◌∷◌, ℕ, map, length, drop, refl, sym, ap, ◌∙◌, add_assoc, arith}
use Rattle.std.specs.Borrow.{Bor}
use Rattle.std.proofs.lemmas.List.{take_rest, map-append, append-nil, drop_all, length-drop}
use Rattle.peg_text.specs.Records.{unended, records_of}
use Rattle.peg_text.proofs.CursorLemmas.{IsSearched-none, record_found, all_searched, rest_unbroken, records_more, records_last, unended-some}
use Rattle.peg_text.proofs.lines.records.Goals as goal
use Rattle.peg_text.proofs.lines.records.Goals.{then-start-bytes+in_ok-push-2, else-start-bytes}

-- what the slices hold
abbrev texts : List (Bor (List ℕ)) → List (List ℕ)
texts slices = map (λ (slice : Bor (List ℕ)). slice.now) slices

pub loop-length-preserved : goal.loop-length-preserved
loop-length-preserved c =
    let bytes = c.args.bytes.now in
    let start = c.loop-length.start in
    let begins = record_found bytes _ start start c.in-Some.length _ _ (IsSearched-none bytes start c.loop-length.invariant.inside) (take_rest bytes start) refl refl c.in-Some.ensures in
    record {
      inside = omega (arith, c.in-Some.ensures.0.high, ap length (take_rest bytes start), length-drop start bytes);
      sofar = rw (c.in_ok-push.ensures.items, map-append, ← add_assoc start c.in-Some.length 1) (records_more (texts c.loop-length.found.items) _ _ _ _ c.loop-length.invariant.sofar begins);
    }

pub returns : goal.returns
returns c =
    let bytes = c.args.bytes.now in
    let start = c.loop-length.start in
    let searched = all_searched bytes _ start start (IsSearched-none bytes start c.loop-length.invariant.inside) (take_rest bytes start) c.in_default.ensures in
    let found = texts c.loop-length.found.items in
    let last = records_last found (records_of bytes) (drop start bytes) c.loop-length.invariant.sofar (rest_unbroken bytes start searched) in
    elim c.if-start-bytes.branch [
      | then-start-bytes+in_ok-push-2 w ↦
          let some : 0 < length (drop start bytes) = omega (arith, w.if-start-bytes.true, length-drop start bytes) in
          rw (w.found-is, w.in_ok-push-2.ensures.items, map-append) (ap (λ line. found ++ (line ∷ [])) (take_rest bytes start) ∙ ap (λ rs. found ++ rs) (sym (unended-some (drop start bytes) some)) ∙ last)
      | else-start-bytes w ↦
          rw w.found-is (sym (append-nil found) ∙ ap (λ rest. found ++ unended rest) (sym (drop_all start bytes (omega (arith, w.if-start-bytes.false)))) ∙ last)
    ]
