-- How the edges of a folder are judged against those of a source.
use Rattle.std.proofs.Common.{◌≡◌, ◌≢◌, ℕ, ◌+◌, ◌≤◌, List, [], ◌∷◌, ◌++◌, Option, Some, None, IfErr, IfSome, Result, Ok, Err, length, drop, inl, inr, refl, sym, ap, ◌∙◌, subst, arith}
use Rattle.std.proofs.lemmas.List.{append-nil, append_assoc, length-append, length-take, nil_from_length}
use Rattle.std.proofs.lemmas.Bool.{cases_eq}
use Rattle.graph.specs.declared.edges.Edge.{Edge}
use Rattle.edge_text.specs.declared.fault.EdgeFault.{EdgeFault}
use Rattle.edge_text.specs.declared.fault.EdgeFault.TheVariants as Text
use Rattle.edge_text.specs.Edges.{Reading, edges_of, text_of}
use Rattle.edge_text.specs.Feeding.{State, begun, fed, fed_edges, ended_edges}
use Rattle.edge_text.proofs.FeedingLemmas.{fed_edges-append}
use Rattle.edge_text.proofs.ReadingLemmas.{reading_at_end-is}
use Rattle.store.specs.declared.comparing.Compared.{Compared}
use Rattle.store.specs.declared.edges.Next.{Next}
use Rattle.store.specs.declared.fault.IngestFault.{IngestFault}
use Rattle.store.specs.declared.fault.IngestFault.TheVariants as Ingest
use Rattle.store.specs.Differing.{common, lfs, parting_line, IsDifferingLine}
use Rattle.store.specs.Comparing.{IsSame, IsParted}
use Rattle.store.specs.Faults.{ingest_fault_of_edges}
use Rattle.store.specs.Ingesting.{HasFed, HasRead, IsJudged, IsNext, IsOfDirectory, IsOfSource, IsReasonOf, IsRefused}
use Rattle.store.proofs.CommonLemmas.{common-front, common-more, common-stop, common-take}
use Rattle.store.proofs.ComparingLemmas.{file_is}
use Rattle.store.proofs.IngestLemmas.{each_given, text_of-append}

-- ---- a text that goes on

-- where the file parts from a text, it parts there from all that the text goes on to
pub common-parted : (file text more : List ℕ) → common file text ≢ text → common file (text ++ more) ≡ common file text
common-parted file [] more parted = absurd (parted (nothing file))
  where
    nothing : (l : List ℕ) → common l [] ≡ []
    nothing [] = refl
    nothing (b ∷ bs) = refl
common-parted [] (c ∷ text) more parted = refl
common-parted (b ∷ file) (c ∷ text) more parted =
    elim (cases_eq b c) [
      | inl same ↦
          common-more b c file (text ++ more) same ∙ ap (λ (l : List ℕ). b ∷ l) (common-parted file text more (λ all. parted (common-more b c file text same ∙ ap (λ (l : List ℕ). b ∷ l) all ∙ ap (λ x. x ∷ text) same))) ∙ sym (common-more b c file text same)
      | inr other ↦ common-stop b c file (text ++ more) other ∙ sym (common-stop b c file text other)
    ]

-- what is in common is no longer than the text
common-short : (file text : List ℕ) → length (common file text) ≤ length text
common-short file text =
    omega (arith, ap length (common-take file text).1, length-take (length (common file text)) text)

pub parted_more : (file text more : List ℕ) (c : Compared) → IsParted file text c → IsParted file (text ++ more) c
parted_more file text more c parted =
    let same = common-parted file text more parted.no_front in
    record {
      no_front = λ all. parted.no_front (whole (sym same ∙ all));
      line = parted.line ∙ ap (λ l. lfs l + 1) (sym same);
    }
  where
    whole : common file text ≡ text ++ more → common file text ≡ text
    whole is =
        let none : more ≡ [] = nil_from_length more (omega (arith, ap length is, length-append text more, common-short file text)) in
        is ∙ ap (λ (l : List ℕ). text ++ l) none ∙ append-nil text

-- ---- what is known of all edges

-- the text so far is a front of the text of all accepted edges
abbrev pub Extends : ℕ → Option (List ℕ) → List ℕ → Type 0
Extends n before text = IfSome before (λ bytes. (more : List ℕ) × (text_of (edges_of n bytes).edges ≡ text ++ more))

fed_extends : (n : ℕ) (before now : Option (List ℕ)) (reader : State) (text : List ℕ) → HasFed n before now reader text → Extends n before text
fed_extends n before now reader text has =
    let P : List ℕ → Type 0 = λ bytes. (more : List ℕ) × (text_of (edges_of n bytes).edges ≡ text ++ more) in
    subst (λ (left : Option (List ℕ)). IfSome left P) (sym has.given) (each_given has.sofar now P further)
  where
    further : (rest : List ℕ) → (more : List ℕ) × (text_of (edges_of n (has.sofar ++ rest)).edges ≡ text ++ more)
    further rest =
        let bytes : List ℕ = has.sofar ++ rest in
        let later : List Edge = fed_edges (fed (begun n) has.sofar) rest ++ ended_edges (fed (begun n) bytes) in
        let all : (edges_of n bytes).edges ≡ fed_edges (begun n) has.sofar ++ later = ap (λ (r : Reading). r.edges) (sym (reading_at_end-is n bytes)) ∙ ap (λ (l : List Edge). l ++ ended_edges (fed (begun n) bytes)) (fed_edges-append (begun n) has.sofar rest) ∙ append_assoc (fed_edges (begun n) has.sofar) (fed_edges (fed (begun n) has.sofar) rest) (ended_edges (fed (begun n) bytes)) in
        (text_of later, ap text_of all ∙ text_of-append (fed_edges (begun n) has.sofar) later ∙ ap (λ (l : List ℕ). l ++ text_of later) (sym has.edges))

read_extends : (n : ℕ) (before : Option (List ℕ)) (text : List ℕ) (refusal : Option EdgeFault) → HasRead n before text refusal → Extends n before text
read_extends n None text refusal read = tt
read_extends n (Some bytes) text refusal read = ([], read.0 ∙ sym (append-nil text))

pub next_extends : (n : ℕ) (before now : Option (List ℕ)) (reader : State) (text : List ℕ) (next : Next) → IsNext n before now reader text next → Extends n before text
next_extends n before now reader text Next.More is = fed_extends n before now reader text is
next_extends n before now reader text Next.End is = read_extends n before text None is
next_extends n before now reader text (Next.Refused fault) is = read_extends n before text (Some fault) is

-- ---- the answers

-- the file parts from the text so far
pub judged_parted : (n : ℕ) (before : Option (List ℕ)) (file text : List ℕ) (c : Compared) → Extends n before text → IsParted file text c → IfSome before (λ bytes. IsJudged file (edges_of n bytes) (Err (Ingest.OtherEdges c.line)))
judged_parted n None file text c extends parted = tt
judged_parted n (Some bytes) file text c extends parted =
    let all : IsParted file (text_of (edges_of n bytes).edges) c = subst (λ (l : List ℕ). IsParted file l c) (sym extends.1) (parted_more file text extends.0 c parted) in
    record { number = all.line; first = λ front. absurd (all.no_front front) }

same_front : (file text : List ℕ) (c : Compared) → IsSame file text c → common file text ≡ text
same_front file text c same =
    ap (λ (l : List ℕ). common l text) (file_is file text c same) ∙ common-front text (drop c.place file)

-- a refusal behind edges that are all in the file
pub judged_refused : (n : ℕ) (before : Option (List ℕ)) (file text : List ℕ) (c : Compared) (fault : EdgeFault) (answer : IngestFault) → HasRead n before text (Some fault) → IsSame file text c → answer ≡ ingest_fault_of_edges fault → IfSome before (λ bytes. IsJudged file (edges_of n bytes) (Err answer))
judged_refused n None file text c fault answer read same is = tt
judged_refused n (Some bytes) file text c fault answer read same is =
    subst (λ (a : IngestFault). IsJudged file (edges_of n bytes) (Err a)) (sym is) (by_fault fault (subst (λ (l : List ℕ). common file l ≡ l) (sym read.0) (same_front file text c same), read.1))
  where
    by_fault : (f : EdgeFault) → IsRefused file (edges_of n bytes) f → IsJudged file (edges_of n bytes) (Err (ingest_fault_of_edges f))
    by_fault (Text.BadEdge line) refused = refused
    by_fault (Text.BigNode line id) refused = refused
    by_fault Text.TooLarge refused = refused
    by_fault Text.NoMemory refused = tt

-- the file goes on behind the text of all edges
pub judged_longer : (n : ℕ) (before : Option (List ℕ)) (file text : List ℕ) (line : ℕ) → HasRead n before text None → IsDifferingLine file text (Some line) → IfSome before (λ bytes. IsJudged file (edges_of n bytes) (Err (Ingest.OtherEdges line)))
judged_longer n None file text line read differs = tt
judged_longer n (Some bytes) file text line read differs =
    record {
      number = differs.1 ∙ ap (parting_line file) (sym read.0);
      first = λ front. (read.1, λ all. differs.0 (all ∙ read.0));
    }

-- the file is the text of all edges
pub judged_same : (n : ℕ) (before : Option (List ℕ)) (file text : List ℕ) → HasRead n before text None → file ≡ text → IfSome before (λ bytes. IsJudged file (edges_of n bytes) (Ok tt))
judged_same n None file text read same = tt
judged_same n (Some bytes) file text read same = (same ∙ sym read.0, read.1)

-- a fault of the source
pub judged_outside : (n : ℕ) (before : Option (List ℕ)) (file : List ℕ) (fault : IngestFault) → IsOfSource fault → IfSome before (λ bytes. IsJudged file (edges_of n bytes) (Err fault))
judged_outside n None file fault is = tt
judged_outside n (Some bytes) file Ingest.Read is = tt
judged_outside n (Some bytes) file Ingest.NoMemory is = tt
judged_outside n (Some bytes) file (Ingest.BadEdge line) is = absurd is
judged_outside n (Some bytes) file (Ingest.BigNode line id) is = absurd is
judged_outside n (Some bytes) file Ingest.TooLarge is = absurd is
judged_outside n (Some bytes) file (Ingest.OtherEdges line) is = absurd is
judged_outside n (Some bytes) file Ingest.Disk is = absurd is

-- ---- how edges are written

pub if_some_each : (left : Option (List ℕ)) (P : List ℕ → Type 0) → ((bytes : List ℕ) → P bytes) → IfSome left P
if_some_each None P each = tt
if_some_each (Some bytes) P each = each bytes

pub if_some_more : (left : Option (List ℕ)) (P Q : List ℕ → Type 0) → IfSome left P → ((bytes : List ℕ) → P bytes → Q bytes) → IfSome left Q
if_some_more None P Q is more = tt
if_some_more (Some bytes) P Q is more = more bytes is

pub reason_of_source : (reading : Reading) (fault : IngestFault) → IsOfSource fault → IsReasonOf reading fault
reason_of_source reading Ingest.Read is = tt
reason_of_source reading Ingest.NoMemory is = tt
reason_of_source reading (Ingest.BadEdge line) is = absurd is
reason_of_source reading (Ingest.BigNode line id) is = absurd is
reason_of_source reading Ingest.TooLarge is = absurd is
reason_of_source reading (Ingest.OtherEdges line) is = absurd is
reason_of_source reading Ingest.Disk is = absurd is

pub reason_of_directory : (reading : Reading) (fault : IngestFault) → IsOfDirectory fault → IsReasonOf reading fault
reason_of_directory reading Ingest.Disk is = tt
reason_of_directory reading Ingest.NoMemory is = tt
reason_of_directory reading (Ingest.BadEdge line) is = absurd is
reason_of_directory reading (Ingest.BigNode line id) is = absurd is
reason_of_directory reading Ingest.TooLarge is = absurd is
reason_of_directory reading (Ingest.OtherEdges line) is = absurd is
reason_of_directory reading Ingest.Read is = absurd is

pub reason_of_refusal : (reading : Reading) (fault : EdgeFault) → reading.refusal ≡ Some fault → IsReasonOf reading (ingest_fault_of_edges fault)
reason_of_refusal reading (Text.BadEdge line) is = is
reason_of_refusal reading (Text.BigNode line id) is = is
reason_of_refusal reading Text.TooLarge is = is
reason_of_refusal reading Text.NoMemory is = tt

pub reason_if_err : {T : Type 0} (reading : Reading) (result : Result T IngestFault) → IfErr result IsOfDirectory → IfErr result (IsReasonOf reading)
reason_if_err reading (Ok value) is = tt
reason_if_err reading (Err fault) is = reason_of_directory reading fault is

pub refused_reason : (n : ℕ) (before : Option (List ℕ)) (text : List ℕ) (fault : EdgeFault) (answer : IngestFault) → HasRead n before text (Some fault) → answer ≡ ingest_fault_of_edges fault → IfSome before (λ bytes. IsReasonOf (edges_of n bytes) answer)
refused_reason n None text fault answer read is = tt
refused_reason n (Some bytes) text fault answer read is =
    subst (λ (a : IngestFault). IsReasonOf (edges_of n bytes) a) (sym is) (reason_of_refusal (edges_of n bytes) fault read.1)

pub none_refused : {T : Type 0} (P : Type 0) (result : Result T IngestFault) → IfErr result IsOfDirectory → IfErr result (λ fault. ¬ IsOfDirectory fault → P)
none_refused P (Ok value) is = tt
none_refused P (Err fault) is = λ other. absurd (other is)
