-- How a run opens its work folder, from what its calls answer.
use Rattle.std.proofs.Common.{◌≡◌, true, ℕ, List, IfSome, None, Some, inl, inr, refl, sym, ◌∙◌, ap, subst, arith}
use Rattle.std.specs.Result.{IsErrAnd}
use Rattle.std.specs.Prelude.{IfErr, IsSome, Option, Result, Ok, Err}
use Rattle.peg_base.specs.Names.{Names}
use Rattle.dir_disk.specs.Calls.{HasFile}
use Rattle.dir_disk.specs.Moments.{Told, files}
use Rattle.dir_disk.specs.State.{Content, Held, IsSound, State, bytes_at, bytes_of}
use Rattle.committer.specs.Folders.{IsUnmarked}
use Rattle.committer.specs.Paths.{part_of, success_of}
use Rattle.edge_text.specs.Edges.{Reading, edges_of}
use Rattle.conf.specs.declared.reading.Conf.{Conf as Settings}
use Rattle.conf.specs.Texts.{text_of}
use Rattle.store.specs.Differing.{DiffersFrom}
use Rattle.store.specs.Ingesting.{IsJudged, IsReasonOf}
use Rattle.store.specs.Parts.{IsFirstMissing}
use Rattle.store.specs.declared.fault.IngestFault.{IngestFault}
use Rattle.store.specs.declared.fault.IngestFault.TheVariants as Ingest
use Rattle.store.specs.declared.fault.StoreFault.{StoreFault}
use Rattle.store.specs.declared.fault.StoreFault.TheVariants as Store
use Rattle.mining.specs.declared.place.Place.TheVariants.{Conf, Edges}
use Rattle.mining.specs.Places.{folder_of}
use Rattle.mining.specs.Between.{IsSure}
use Rattle.mining.specs.declared.stop.Stop.{Stop}
use Rattle.mining.specs.declared.stop.Stop.TheVariants.{TaskFailed, BadStore, BadEdge, BigNode, TooLarge, OtherJob, OtherEdges, Disk, Read, Say, NoMemory}
use Rattle.mining.specs.Stops.{IsOfDisk, IsOfJobs, IsOfMining, of_ingest, of_store}
use Rattle.driver.specs.declared.outcome.Outcome.{Outcome}
use Rattle.driver.specs.Causes.{Found, IsOpened, IsOpenedOver, IsTakenOver, found_in, outcome_of}
use Rattle.driver.specs.Headline.{Asks}
use Rattle.driver.specs.Running.{bytes_for}
use Rattle.conf.specs.Commands.{is_mining}
use Rattle.graph.specs.declared.edges.Edge.{Edge}
use Rattle.driver.specs.Opening.{IsJudgedJob, IsSettled, mark_of}
use Rattle.driver.specs.Outcomes.{outcome_of_stop}
use Rattle.driver.proofs.Begin.{both_told, if_told}

-- ---- answers that say nothing of the opening

pub of_disk : (conf : Settings) (found : Found) (reading : Reading) (stop : Stop) → IsOfDisk stop → IsOpenedOver conf found reading (outcome_of_stop stop)
of_disk conf found reading (TaskFailed task) is = absurd is
of_disk conf found reading (BadStore path line) is = absurd is
of_disk conf found reading (BadEdge line) is = absurd is
of_disk conf found reading (BigNode line id) is = absurd is
of_disk conf found reading TooLarge is = absurd is
of_disk conf found reading (OtherJob line) is = absurd is
of_disk conf found reading (OtherEdges line) is = absurd is
of_disk conf found reading Disk is = tt
of_disk conf found reading Read is = absurd is
of_disk conf found reading Say is = absurd is
of_disk conf found reading NoMemory is = tt

pub of_looks : (conf : Settings) (found : Found) (reading : Reading) (fault : StoreFault) → IsOpenedOver conf found reading (outcome_of_stop (of_store fault))
of_looks conf found reading Store.Disk = tt
of_looks conf found reading Store.NoMemory = tt

-- ---- the settings

pub same_settings : (content : Content) (text : List ℕ) → DiffersFrom content text None → content ≡ Some text
same_settings None text is = cc
same_settings (Some bytes) text is = ap Some is

pub of_settings : (conf : Settings) (found : Found) (reading : Reading) (stop : Stop) → IsSome found.mark → IsJudgedJob found.conf (text_of conf) (Err stop) → IsOpenedOver conf found reading (outcome_of_stop stop)
of_settings conf found reading (TaskFailed task) whole judged = absurd judged
of_settings conf found reading (BadStore path line) whole judged = absurd judged
of_settings conf found reading (BadEdge line) whole judged = absurd judged
of_settings conf found reading (BigNode line id) whole judged = absurd judged
of_settings conf found reading TooLarge whole judged = absurd judged
of_settings conf found reading (OtherJob line) whole judged = (whole, judged)
of_settings conf found reading (OtherEdges line) whole judged = absurd judged
of_settings conf found reading Disk whole judged = tt
of_settings conf found reading Read whole judged = absurd judged
of_settings conf found reading Say whole judged = absurd judged
of_settings conf found reading NoMemory whole judged = tt

-- ---- the edges that are there

pub lacks_edges : (conf : Settings) (found : Found) (reading : Reading) (state : State) (path : Names) → found ≡ found_in state → IsSome found.mark → found.conf ≡ Some (text_of conf) → IsFirstMissing state (folder_of Edges) 1 path → IsOpenedOver conf found reading (outcome_of_stop (BadStore path 0))
lacks_edges conf found reading state path is whole settings missing =
    let first : missing.part ≡ 0 = omega (arith, missing.inside) in
    let named : path ≡ part_of (folder_of Edges) 0 = missing.named ∙ ap (λ (part : ℕ). part_of (folder_of Edges) part) first in
    inr (record {
      whole = whole;
      settings = settings;
      none = ap (λ (f : Found). f.edges) is ∙ ap (λ (p : Names). (state p).now) (sym named) ∙ missing.none;
      named = named;
      number = refl;
    })

pub of_edges : (conf : Settings) (found : Found) (reading : Reading) (file : List ℕ) (fault : IngestFault) → IsSome found.mark → found.conf ≡ Some (text_of conf) → found.edges ≡ Some file → IsJudged file reading (Err fault) → IsOpenedOver conf found reading (outcome_of_stop (of_ingest fault))
of_edges conf found reading file (Ingest.BadEdge line) whole settings part judged =
    inr (record { whole = whole; settings = settings; file = file; part = part; is = judged })
of_edges conf found reading file (Ingest.BigNode line id) whole settings part judged =
    inr (record { whole = whole; settings = settings; file = file; part = part; is = judged })
of_edges conf found reading file Ingest.TooLarge whole settings part judged =
    inr (record { whole = whole; settings = settings; file = file; part = part; is = judged })
of_edges conf found reading file (Ingest.OtherEdges line) whole settings part judged =
    record { whole = whole; settings = settings; file = file; part = part; is = judged }
of_edges conf found reading file Ingest.Disk whole settings part judged = tt
of_edges conf found reading file Ingest.Read whole settings part judged = tt
of_edges conf found reading file Ingest.NoMemory whole settings part judged = tt

pub same_edges : (conf : Settings) (found : Found) (reading : Reading) (file : List ℕ) → IsSome found.mark → found.conf ≡ Some (text_of conf) → found.edges ≡ Some file → IsJudged file reading (Ok tt) → IsTakenOver conf found reading
same_edges conf found reading file whole settings part judged =
    inr (record { whole = whole; settings = settings; file = file; part = part; is = judged })

pub bytes_there : (state : State) (path : Names) → HasFile state path → (state path).now ≡ Some (bytes_at state path)
bytes_there state path there = there.1 ∙ ap Some (sym (ap bytes_of there.1))

-- the part that is compared is that of `edges`
pub compared_part : (d e : State) (folder part : Names) → e ≡ d → folder ≡ folder_of Edges → part ≡ part_of folder 0 → HasFile e part → (found_in d).edges ≡ Some (bytes_at e part)
compared_part d e folder part same is named there =
    let path : part ≡ part_of (folder_of Edges) 0 = named ∙ ap (λ (f : Names). part_of f 0) is in
    ap (λ (s : State). (s (part_of (folder_of Edges) 0)).now) (sym same) ∙ ap (λ (p : Names). (e p).now) (sym path) ∙ bytes_there e part there

-- ---- edges that aren't there

pub of_reading : (conf : Settings) (found : Found) (reading : Reading) (fault : IngestFault) → found.mark ≡ None → IsReasonOf reading fault → IsOpenedOver conf found reading (outcome_of_stop (of_ingest fault))
of_reading conf found reading (Ingest.BadEdge line) none reason = inl (none, reason)
of_reading conf found reading (Ingest.BigNode line id) none reason = inl (none, reason)
of_reading conf found reading Ingest.TooLarge none reason = inl (none, reason)
of_reading conf found reading (Ingest.OtherEdges line) none reason = absurd reason
of_reading conf found reading Ingest.Disk none reason = tt
of_reading conf found reading Ingest.Read none reason = tt
of_reading conf found reading Ingest.NoMemory none reason = tt

-- ---- what comes after the opening

pub of_mining : (conf : Settings) (found : Found) (reading : Reading) (stop : Stop) → IsTakenOver conf found reading → IsOfMining stop → IsOpenedOver conf found reading (outcome_of_stop stop)
of_mining conf found reading (TaskFailed task) taken is = taken
of_mining conf found reading (BadStore path line) taken is = inl taken
of_mining conf found reading (BadEdge line) taken is = absurd is
of_mining conf found reading (BigNode line id) taken is = absurd is
of_mining conf found reading TooLarge taken is = absurd is
of_mining conf found reading (OtherJob line) taken is = absurd is
of_mining conf found reading (OtherEdges line) taken is = absurd is
of_mining conf found reading Disk taken is = tt
of_mining conf found reading Read taken is = absurd is
of_mining conf found reading Say taken is = taken
of_mining conf found reading NoMemory taken is = tt

pub mining_jobs : (stop : Stop) → IsOfJobs stop → IsOfMining stop
mining_jobs (TaskFailed task) is = tt
mining_jobs (BadStore path line) is = tt
mining_jobs (BadEdge line) is = is
mining_jobs (BigNode line id) is = is
mining_jobs TooLarge is = is
mining_jobs (OtherJob line) is = is
mining_jobs (OtherEdges line) is = is
mining_jobs Disk is = tt
mining_jobs Read is = is
mining_jobs Say is = absurd is
mining_jobs NoMemory is = tt

pub then_mining : (conf : Settings) (found : Found) (reading : Reading) (result : Result (Unit {0}) Stop) → IsTakenOver conf found reading → IfErr result IsOfMining → IsOpenedOver conf found reading (outcome_of result)
then_mining conf found reading (Ok done) taken is = taken
then_mining conf found reading (Err stop) taken is = of_mining conf found reading stop taken is

-- ---- over states

pub same_found : (conf : Settings) (s t : State) (bytes : List ℕ) (outcome : Outcome) → found_in s ≡ found_in t → IsOpened conf s bytes outcome → IsOpened conf t bytes outcome
same_found conf s t bytes outcome same opened =
    subst (λ (found : Found). IsOpenedOver conf found (edges_of conf.nodes bytes) outcome) same opened

pub same_opened : (conf : Settings) (s t : State) (bytes : List ℕ) (outcome : Outcome) → s ≡ t → IsOpened conf s bytes outcome → IsOpened conf t bytes outcome
same_opened conf s t bytes outcome same opened = same_found conf s t bytes outcome (ap found_in same) opened

abbrev found_of : Content → Content → Content → Found
found_of mark conf edges = record { mark = mark; conf = conf; edges = edges }

found_is : (mark mark' conf conf' edges edges' : Content) → mark ≡ mark' → conf ≡ conf' → edges ≡ edges' → found_of mark conf edges ≡ found_of mark' conf' edges'
found_is mark mark' conf conf' edges edges' first second third = cc

pub settled_found : (s t : State) → IsSettled s t → found_in t ≡ found_in s
settled_found s t settled =
    let at : (path : Names) → (t path).now ≡ (s path).now = λ path. ap (λ (h : Held). h.now) (settled path) in
    found_is _ _ _ _ _ _ (at (success_of (folder_of Edges))) (at (part_of (folder_of Conf) 0)) (at (part_of (folder_of Edges) 0))

pub sure_mark : (s : State) → IsSound s → IsSure Edges s → IsSome (mark_of Edges s)
sure_mark s sound sure = sure (mark_of Edges s) (sound (success_of (folder_of Edges)))

pub unmarked_mark : (s : State) → IsSound s → IsUnmarked (folder_of Edges) s → mark_of Edges s ≡ None
unmarked_mark s sound unmarked = unmarked (mark_of Edges s) (sound (success_of (folder_of Edges)))

-- ---- at the exits of a call

-- it answers an error that says nothing of what it reads, or whose cause is known for any bytes
pub exits : (P : List ℕ → Outcome → Type 0) (left : Option (List ℕ)) (result : Result (Unit {0}) Stop) (stop : Stop) → IsErrAnd result (λ e. e ≡ stop) → ((bytes : List ℕ) → P bytes (outcome_of_stop stop)) → IfSome left (λ bytes. P bytes (outcome_of result))
exits P left (Ok done) stop is all = absurd is
exits P left (Err e) stop is all =
    if_told (λ bytes. P bytes (outcome_of_stop e)) left (λ bytes. subst (λ (s : Stop). P bytes (outcome_of_stop s)) (sym is) (all bytes))

-- it answers an error whose cause is in what it reads
pub exits_by : (P : List ℕ → Outcome → Type 0) (R : List ℕ → Type 0) (left : Option (List ℕ)) (result : Result (Unit {0}) Stop) (stop : Stop) → IsErrAnd result (λ e. e ≡ stop) → ((bytes : List ℕ) → R bytes → P bytes (outcome_of_stop stop)) → IfSome left R → IfSome left (λ bytes. P bytes (outcome_of result))
exits_by P R left (Ok done) stop is all reads = absurd is
exits_by P R left (Err e) stop is all reads =
    both_told R (λ bytes. P bytes (outcome_of_stop e)) left (λ bytes read. subst (λ (s : Stop). P bytes (outcome_of_stop s)) (sym is) (all bytes read)) reads

-- ---- for the settings and the bytes that a run reads

abbrev pub OpenedFor : Type 0 → Told → Outcome → Settings → Option (List ℕ) → Type 0
OpenedFor tells d result conf left =
    is_mining conf.command ≡ true → IfSome left (λ bytes. tells → IsOpened conf (files d) bytes result)

pub opened_asked : (tells : Type 0) (d : Told) (result : Outcome) (words : List (List ℕ)) (left : Option (List ℕ)) (conf : Settings) (accepted : List Edge) (asks : Asks words left conf accepted) → IfSome (bytes_for conf left) (λ bytes. tells → IsOpened conf (files d) bytes result) → tells → IsOpened conf (files d) asks.bytes result
opened_asked tells d result words left conf accepted asks opened =
    subst (λ (read : Option (List ℕ)). IfSome read (λ bytes. tells → IsOpened conf (files d) bytes result)) asks.read opened

pub then_jobs : (conf : Settings) (found : Found) (reading : Reading) (result : Result (Unit {0}) Stop) → IsTakenOver conf found reading → IfErr result IsOfJobs → IsOpenedOver conf found reading (outcome_of result)
then_jobs conf found reading (Ok done) taken is = taken
then_jobs conf found reading (Err stop) taken is = of_mining conf found reading stop taken (mining_jobs stop is)

-- what is so of all that is told, where the directory tells too
pub told_within : (tells : Type 0) (R : List ℕ → Type 0) (left : Option (List ℕ)) → (tells → IfSome left R) → IfSome left (λ bytes. tells → R bytes)
told_within tells R None told = tt
told_within tells R (Some bytes) told = told
