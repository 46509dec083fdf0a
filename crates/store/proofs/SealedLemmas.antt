-- Folders of one part that are written by the driver.
use Rattle.std.proofs.Common.{◌≡◌, ℕ, ◌+◌, false, List, [], ◌∷◌, ◌++◌, Some, Result, Ok, Err, sym, ap, ◌∙◌, subst, arith, ⊎_elim}
use Rattle.std.specs.List.{flat_map, range_with_len}
use Rattle.std.specs.Result.{OnOk}
use Rattle.std.proofs.lemmas.Bool.{false≢true, cases_Bool}
use Rattle.std.proofs.lemmas.List.{append-nil, append_assoc, map-id}
use Rattle.std.proofs.lemmas.List.Concat.{flat_map-append}
use Rattle.std.proofs.lemmas.List.FromFn.{map-range_with_len_more}
use Rattle.peg_base.specs.Names.{Names, same_path}
use Rattle.peg_base.proofs.Under.{same_path-refl, under-append, under-same}
use Rattle.dir_disk.specs.State.{Content, Held, State, StandsOutside, bytes_of, after_append}
use Rattle.dir_disk.specs.Moments.{Both, Through, Told, files}
use Rattle.dir_disk.proofs.Keeping.{appended_now, stands_outside_start, stands_since}
use Rattle.dir_disk.proofs.Through.{at_end, then_goes, weaker}
use Rattle.committer.specs.Folders.{IsBegun, IsSealed, Seals, Writes, fixed}
use Rattle.committer.specs.Paths.{part_name, part_of, success_of}
use Rattle.committer.proofs.SealingLemmas.{success_not_part}
use Rattle.store.specs.Sealed.{IsGathering, IsMade, IsWriting, Makes, node_line, nodes_text}

pub writes_make : (folder : Names) (text : List ℕ) (entry s t : State) → Writes folder entry s t → Makes folder text entry s t
writes_make folder text entry s t writes =
    record { images = λ image fits whole. absurd (writes.images image fits whole); outside = writes.outside }

writes_outside : (folder : Names) (a b : Told) → Through (Writes folder (files a)) a b → StandsOutside folder (files a) (files b)
writes_outside folder a b steps =
    at_end (Writes folder (files a)) (StandsOutside folder (files a)) a b steps (stands_outside_start folder (files a)) (λ s t writes. writes.outside.1)

writes_since : (folder : Names) (entry mid s t : State) → StandsOutside folder entry mid → Writes folder mid s t → Writes folder entry s t
writes_since folder entry mid s t stands writes =
    record { images = writes.images; outside = (stands_since folder entry mid s stands writes.outside.0, stands_since folder entry mid t stands writes.outside.1) }

pub writes_then : (folder : Names) (a b c : Told) → Through (Writes folder (files a)) a b → Through (Writes folder (files b)) b c → Through (Writes folder (files a)) a c
writes_then folder a b c first second =
    then_goes (Writes folder (files a)) a b c first (weaker (Writes folder (files b)) (Writes folder (files a)) b c (λ s t writes. writes_since folder (files a) (files b) s t (writes_outside folder a b first) writes) second)

pub writing_more : (folder : Names) (sofar text : List ℕ) (entry mid now : Told) → IsWriting folder sofar entry mid → Through (Writes folder (files mid)) mid now → IsBegun folder (files now) → files now ≡ after_append (part_of folder 0) text (files mid) → IsWriting folder (sofar ++ text) entry now
writing_more folder sofar text entry mid now writing steps begun is =
    record {
      steps = writes_then folder entry mid now writing.steps steps;
      begun = begun;
      part = ap (λ (s : State). (s (part_of folder 0)).now) is ∙ appended_now (part_of folder 0) text (files mid) ∙ ap (λ (c : Content). Some (bytes_of c ++ text)) writing.part;
    }

pub writing_begun : (folder : Names) (entry now : Told) → Through (Writes folder (files entry)) entry now → IsBegun folder (files now) → (files now (part_of folder 0)).now ≡ Some [] → IsWriting folder [] entry now
writing_begun folder entry now steps begun empty = record { steps = steps; begun = begun; part = empty }

-- ---- the end

success_other : (folder : Names) → same_path (success_of folder) (part_of folder 0) ≡ false
success_other folder =
    ⊎_elim (λ same. absurd (false≢true (sym (success_not_part folder 0 (part_of folder 0) (under-same (success_of folder) (part_of folder 0) same)) ∙ same_path-refl (part_of folder 0)))) (λ other. other) (cases_Bool (same_path (success_of folder) (part_of folder 0)))

seals_make : (folder : Names) (text : List ℕ) (entry mid s t : State) → StandsOutside folder entry mid → IsBegun folder mid → (mid (part_of folder 0)).now ≡ Some text → Seals folder mid s t → Makes folder text entry s t
seals_make folder text entry mid s t stands begun part seals =
    record {
      images =
          λ image fits whole.
          let all = seals.images image fits whole in
          record {
            part = all (part_of folder 0) (under-append folder (part_name 0 ∷ [])) (success_other folder) ∙ part;
            no_other = λ path below not_success not_part. all path below not_success ∙ ap (λ (h : Held). h.now) (begun.no_other path below not_part);
          };
      outside = (stands_since folder entry mid s stands seals.outside.0, stands_since folder entry mid t stands seals.outside.1);
    }

pub sealed_steps : (folder : Names) (text : List ℕ) (entry mid now : Told) → IsWriting folder text entry mid → Through (Seals folder (files mid)) mid now → Through (Makes folder text (files entry)) entry now
sealed_steps folder text entry mid now writing seals =
    let before = weaker (Writes folder (files entry)) (Makes folder text (files entry)) entry mid (writes_make folder text (files entry)) writing.steps in
    then_goes (Makes folder text (files entry)) entry mid now before (weaker (Seals folder (files mid)) (Makes folder text (files entry)) mid now (λ s t step. seals_make folder text (files entry) (files mid) s t (writes_outside folder entry mid writing.steps) writing.begun writing.part step) seals)

pub sealed_made : (folder : Names) (text : List ℕ) (entry mid now : Told) → IsWriting folder text entry mid → IsSealed folder (files mid) (files now) → IsMade folder text (files now)
sealed_made folder text entry mid now writing sealed =
    record {
      success = sealed.success;
      part = sealed.files (part_of folder 0) (under-append folder (part_name 0 ∷ [])) (success_other folder) ∙ ap fixed writing.part;
      no_other = λ path below not_success not_part. sealed.files path below not_success ∙ ap (λ (h : Held). fixed h.now) (writing.begun.no_other path below not_part);
    }

-- ---- what is gathered

pub gathering_sent : (folder : Names) (text held sent : List ℕ) (entry now : Told) (g : List ℕ) → text ≡ g ++ held → sent ≡ held → IsWriting folder (g ++ sent) entry now → IsWriting folder text entry now
gathering_sent folder text held sent entry now g all is writing =
    subst (λ (l : List ℕ). IsWriting folder l entry now) (ap (λ (l : List ℕ). g ++ l) is ∙ sym all) writing

pub gathering_none : (folder : Names) (text none : List ℕ) (entry now : Told) → none ≡ [] → IsWriting folder text entry now → IsGathering folder text none entry now
gathering_none folder text none entry now is writing =
    record { sofar = text; writing = writing; all = sym (append-nil text) ∙ ap (λ (l : List ℕ). text ++ l) (sym is) }

pub gathering_more : (folder : Names) (text held more new : List ℕ) (entry now : Told) → IsGathering folder text held entry now → new ≡ held ++ more → IsGathering folder (text ++ more) new entry now
gathering_more folder text held more new entry now gathering is =
    record {
      sofar = gathering.sofar;
      writing = gathering.writing;
      all = ap (λ (l : List ℕ). l ++ more) gathering.all ∙ append_assoc gathering.sofar held more ∙ ap (λ (l : List ℕ). gathering.sofar ++ l) (sym is);
    }

-- ---- the nodes

pub nodes_more : (n : ℕ) → nodes_text (n + 1) ≡ nodes_text n ++ node_line n
nodes_more n =
    let more : range_with_len 0 (n + 1) ≡ range_with_len 0 n ++ n ∷ [] = sym (map-id (range_with_len 0 (n + 1))) ∙ map-range_with_len_more (λ (x : ℕ). x) 0 n n (omega arith) ∙ ap (λ (l : List ℕ). l ++ n ∷ []) (map-id (range_with_len 0 n)) in
    ap (flat_map node_line) more ∙ flat_map-append node_line (range_with_len 0 n) (n ∷ []) ∙ ap (λ (l : List ℕ). nodes_text n ++ l) (append-nil (node_line n))

pub steps_of_writing : (folder : Names) (text : List ℕ) (a b : Told) → Through (Writes folder (files a)) a b → Through (Makes folder text (files a)) a b
steps_of_writing folder text a b steps =
    weaker (Writes folder (files a)) (Makes folder text (files a)) a b (writes_make folder text (files a)) steps

-- ---- what holds whatever the text is

-- the part has some text
pub writing_some : (folder : Names) (entry now : Told) → Through (Writes folder (files entry)) entry now → (begun : IsBegun folder (files now)) → IsWriting folder begun.part.0 entry now
writing_some folder entry now steps begun = record { steps = steps; begun = begun; part = begun.part.1 }

pub writes_stand : (folder : Names) (a b : Told) → Through (Writes folder (files a)) a b → Through (Both (StandsOutside folder (files a))) a b
writes_stand folder a b steps =
    weaker (Writes folder (files a)) (Both (StandsOutside folder (files a))) a b (λ s t writes. writes.outside) steps

pub makes_stand : (folder : Names) (text : List ℕ) (a b : Told) → Through (Makes folder text (files a)) a b → Through (Both (StandsOutside folder (files a))) a b
makes_stand folder text a b steps =
    weaker (Makes folder text (files a)) (Both (StandsOutside folder (files a))) a b (λ s t makes. makes.outside) steps

pub made_success : {T E : Type 0} (folder : Names) (text : List ℕ) (state : State) (result : Result T E) → OnOk result (IsMade folder text state) → OnOk result (state (success_of folder) ≡ fixed (Some []))
made_success folder text state (Ok value) made = made.success
made_success folder text state (Err fault) made = tt
