-- A place that a refusal names isn't as it was made.
use Rattle.std.proofs.Common.{◌≡◌, ◌≢◌, ℕ, ◌-◌, ◌^◌, ◌<◌, ◌≤◌, Bool, false, inl, inr, ⊎_elim, List, [], ◌∷◌, length, get_or, Option, None, Some, refl, sym, ◌∙◌, ap, subst, arith}
use Rattle.std.specs.Prelude.{Result, Ok, Err, IfErr, IsErrAnd, is_some}
use Rattle.std.specs.List.{All, AllByRecursion, flat_map, range_with_len}
use Rattle.std.proofs.lemmas.Bool.{false≢true}
use Rattle.std.proofs.lemmas.List.FromFn.{get_or-range_with_len, length-range_with_len}
use Rattle.std.proofs.lemmas.List.Elements.{All-nil, All-append, All-map}
use Rattle.peg_base.specs.Names.{Names}
use Rattle.dir_disk.specs.State.{Content, StandsOutside, State}
use Rattle.dir_disk.specs.Calls.{IsLength}
use Rattle.peg_base.proofs.Under.{under-append}
use Rattle.committer.specs.Paths.{part_of, success_name, success_of}
use Rattle.conf.specs.declared.commands.Form.{Form}
use Rattle.conf.specs.declared.commands.Form.TheVariants.{Base, Block, Clustered, Diagonal}
use Rattle.conf.specs.declared.reading.Conf.{Conf as Settings}
use Rattle.conf.specs.Rules.{is_clustered}
use Rattle.store.specs.declared.changes.Place.{Place as Spot}
use Rattle.store.specs.Parts.{AreGood, IsBadStore, records_below}
use Rattle.store.specs.Totals.{first_change, is_result, is_value}
use Rattle.conf.specs.declared.commands.Command.TheVariants.{Hcc}
use Rattle.store.specs.Faults.{BadStoreOf}
use Rattle.store.specs.declared.fault.ReadingFault.{ReadingFault}
use Rattle.store.specs.declared.fault.ReadingFault.TheVariants as Reading
use Rattle.committer.specs.declared.fault.CommitFault.{CommitFault}
use Rattle.committer.specs.declared.fault.CommitFault.TheVariants as Commit
use Rattle.job.specs.declared.fault.JobFault.{JobFault}
use Rattle.job.specs.declared.fault.JobFault.TheVariants as Job
use Rattle.mining.specs.declared.place.Place.{Place}
use Rattle.mining.specs.declared.place.Place.TheVariants.{Conf, Messages, Vector, Results}
use Rattle.mining.specs.Places.{folder_of, IsInTable, is_messages, is_sealed}
use Rattle.mining.specs.Table.{inputs_of, matrix_for, numbers_for, part_count, part_paths, paths_read}
use Rattle.mining.specs.Between.{IsSure}
use Rattle.mining.specs.declared.stop.Stop.{Stop}
use Rattle.mining.specs.declared.stop.Stop.TheVariants.{TaskFailed, BadStore, BadEdge, BigNode, TooLarge, OtherJob, OtherEdges, Disk, Read, Say, NoMemory}
use Rattle.mining.specs.Stops.{IsOfDisk, of_commit, of_job, of_reading}
use Rattle.mining.specs.Stored.{IfBadStore, IsNoBadStore, IsNotAsMade, LacksFile, NamesChange, StillChanges}
use Rattle.mining.proofs.EnsureLemmas.{sure_same}
use Rattle.mining.proofs.Names.{same_or_apart}
use Rattle.mining.proofs.Flows.{inputs_of_messages, inputs_of_vector}

-- ---- refusals that name no place

pub named_weaker : (P Q : Names → ℕ → Type 0) → ((path : Names) (line : ℕ) → P path line → Q path line) → (stop : Stop) → IfBadStore P stop → IfBadStore Q stop
named_weaker P Q weak (TaskFailed task) holds = tt
named_weaker P Q weak (BadStore path line) holds = weak path line holds
named_weaker P Q weak (BadEdge line) holds = tt
named_weaker P Q weak (BigNode line id) holds = tt
named_weaker P Q weak TooLarge holds = tt
named_weaker P Q weak (OtherJob line) holds = tt
named_weaker P Q weak (OtherEdges line) holds = tt
named_weaker P Q weak Disk holds = tt
named_weaker P Q weak Read holds = tt
named_weaker P Q weak Say holds = tt
named_weaker P Q weak NoMemory holds = tt

pub err_weaker : {T : Type 0} (P Q : Names → ℕ → Type 0) (result : Result T Stop) → ((path : Names) (line : ℕ) → P path line → Q path line) → IfErr result (IfBadStore P) → IfErr result (IfBadStore Q)
err_weaker P Q (Ok value) weak holds = tt
err_weaker P Q (Err stop) weak holds = named_weaker P Q weak stop holds

pub err_none : {T : Type 0} (Q : Names → ℕ → Type 0) (result : Result T Stop) → IfErr result IsNoBadStore → IfErr result (IfBadStore Q)
err_none Q (Ok value) holds = tt
err_none Q (Err stop) holds = named_weaker (λ path line. ⊥) Q (λ path line none. absurd none) stop holds

pub err_moved : {T : Type 0} (P : State → Names → ℕ → Type 0) (s t : State) (result : Result T Stop) → t ≡ s → IfErr result (IfBadStore (P s)) → IfErr result (IfBadStore (P t))
err_moved P s t result is holds = subst (λ (r : State). IfErr result (IfBadStore (P r))) (sym is) holds

pub disk_names_none : (P : Names → ℕ → Type 0) (stop : Stop) → IsOfDisk stop → IfBadStore P stop
disk_names_none P (TaskFailed task) of = tt
disk_names_none P (BadStore path line) of = absurd of
disk_names_none P (BadEdge line) of = tt
disk_names_none P (BigNode line id) of = tt
disk_names_none P TooLarge of = tt
disk_names_none P (OtherJob line) of = tt
disk_names_none P (OtherEdges line) of = tt
disk_names_none P Disk of = tt
disk_names_none P Read of = tt
disk_names_none P Say of = tt
disk_names_none P NoMemory of = tt

pub commit_names_none : (P : Names → ℕ → Type 0) (fault : CommitFault) → IfBadStore P (of_commit fault)
commit_names_none P Commit.Disk = tt
commit_names_none P Commit.NoMemory = tt

pub job_names_none : (P : Names → ℕ → Type 0) (fault : JobFault) → IfBadStore P (of_job fault)
job_names_none P (Job.TaskFailed task) = tt
job_names_none P Job.Disk = tt
job_names_none P Job.NoMemory = tt

pub reading_names : (good : List ℕ → Bool) (s : State) (folder : Names) (parts : ℕ) (Q : Names → ℕ → Type 0) → ((path : Names) (line : ℕ) → IsBadStore good s folder parts path line → Q path line) → (fault : ReadingFault) → BadStoreOf good s folder parts fault → IfBadStore Q (of_reading fault)
reading_names good s folder parts Q weak (Reading.BadStore path line) bad = weak path line bad
reading_names good s folder parts Q weak Reading.Disk bad = tt
reading_names good s folder parts Q weak Reading.NoMemory bad = tt

-- ---- what a job reads

-- a folder that a job reads, and that is whole in each image
abbrev pub IsWholeInput : State → Place → Type 0
IsWholeInput s input = IsInTable input × (input ≢ Conf) × IsSure input s

record IsPart (conf : Settings) (s : State) (path : Names) : Type 0 where
  place : Place
  is : IsWholeInput s place
  part : ℕ
  inside : part < part_count conf place
  named : path ≡ part_of (folder_of place) part

number_at : (n k d : ℕ) → k < length (range_with_len 0 n) → get_or (range_with_len 0 n) k d < n
number_at n k d below = let size = length-range_with_len 0 n in let at = get_or-range_with_len 0 n k d (omega (arith, size, below)) in omega (arith, at, below, size)

parts_of_input : (conf : Settings) (s : State) (input : Place) → IsWholeInput s input → All (IsPart conf s) (part_paths input (part_count conf input))
parts_of_input conf s input is =
    let count = part_count conf input in
    All-map (IsPart conf s) (part_of (folder_of input)) (range_with_len 0 count) (λ k d below. record { place = input; is = is; part = get_or (range_with_len 0 count) k d; inside = number_at count k d below; named = refl })

parts_of_inputs : (conf : Settings) (s : State) (inputs : List Place) → AllByRecursion (IsWholeInput s) inputs → All (IsPart conf s) (flat_map (λ input. part_paths input (part_count conf input)) inputs)
parts_of_inputs conf s [] all = All-nil (IsPart conf s)
parts_of_inputs conf s (input ∷ inputs) all =
    All-append (IsPart conf s) (part_paths input (part_count conf input)) (flat_map (λ place. part_paths place (part_count conf place)) inputs) (parts_of_input conf s input all.0) (parts_of_inputs conf s inputs all.1)

pub input_lacks : (conf : Settings) (last : ℕ) (place : Place) (s : State) → AllByRecursion (IsWholeInput s) (inputs_of conf.form last place) → (path : Names) (line : ℕ) → LacksFile (paths_read conf last place) s path line → IsNotAsMade conf s path line
unfolding paths_read
input_lacks conf last place s inputs path line lacks =
    let all : All (IsPart conf s) (paths_read conf last place) = parts_of_inputs conf s (inputs_of conf.form last place) inputs in
    let is : IsPart conf s path = subst (IsPart conf s) (sym lacks.named) (all lacks.place [] lacks.inside) in
    inl (record { place = is.place; is_there = is.is.0; not_conf = is.is.1; whole = is.is.2; part = is.part; inside = is.inside; named = is.named; none = lacks.none; number = lacks.number })

not_sealed : (place : Place) → is_sealed place ≡ false → place ≢ Conf
not_sealed place plain is = false≢true (sym plain ∙ ap is_sealed is)

pub matrix_there : (form : Form) → IsInTable (matrix_for form) × (is_messages (matrix_for form) ≡ false) × (is_sealed (matrix_for form) ≡ false)
matrix_there Base = (tt, refl, refl)
matrix_there Block = (tt, refl, refl)
matrix_there Clustered = (tt, refl, refl)
matrix_there Diagonal = (tt, refl, refl)

pub messages_lack : (conf : Settings) (last k : ℕ) (s : State) → 1 ≤ k → k < 10 ^ 10 → IsSure (matrix_for conf.form) s → IsSure (Vector (k - 1)) s → (path : Names) (line : ℕ) → LacksFile (paths_read conf last (Messages k)) s path line → IsNotAsMade conf s path line
messages_lack conf last k s some few matrix vector =
    let there = matrix_there conf.form in
    input_lacks conf last (Messages k) s (subst (AllByRecursion (IsWholeInput s)) (sym (inputs_of_messages conf.form last k some)) ((there.0, not_sealed (matrix_for conf.form) there.2, matrix), ((omega (arith, few), not_sealed (Vector (k - 1)) refl, vector), tt)))

pub vector_lacks : (conf : Settings) (last k : ℕ) (s : State) → 1 ≤ k → k < 10 ^ 10 → IsSure (Messages k) s → (path : Names) (line : ℕ) → LacksFile (paths_read conf last (Vector k)) s path line → IsNotAsMade conf s path line
vector_lacks conf last k s some few messages =
    input_lacks conf last (Vector k) s (subst (AllByRecursion (IsWholeInput s)) (sym (inputs_of_vector conf.form last k some)) (((some, few), not_sealed (Messages k) refl, messages), tt))

pub numbers_there : (form : Form) (last : ℕ) → last < 10 ^ 10 → IsInTable (numbers_for form last) × (is_messages (numbers_for form last) ≡ false) × (is_sealed (numbers_for form last) ≡ false)
numbers_there Base last few = (few, refl, refl)
numbers_there Block last few = (few, refl, refl)
numbers_there Clustered last few = (tt, refl, refl)
numbers_there Diagonal last few = (few, refl, refl)

pub results_lack : (conf : Settings) (last : ℕ) (s : State) → last < 10 ^ 10 → IsSure (numbers_for conf.form last) s → (path : Names) (line : ℕ) → LacksFile (paths_read conf last Results) s path line → IsNotAsMade conf s path line
results_lack conf last s few numbers =
    let there = numbers_there conf.form last few in
    input_lacks conf last Results s ((there.0, not_sealed (numbers_for conf.form last) there.2, numbers), tt)

pub numbers_are : (form : Form) (last : ℕ) → is_clustered form ≡ false → numbers_for form last ≡ Vector last
numbers_are Base last plain = refl
numbers_are Block last plain = refl
numbers_are Clustered last plain = absurd (false≢true (sym plain))
numbers_are Diagonal last plain = refl

-- ---- the steps of functions

pub err_is : {T : Type 0} (Q : Names → ℕ → Type 0) (result : Result T Stop) (stop : Stop) → IsErrAnd result (λ e. e ≡ stop) → IfBadStore Q stop → IfErr result (IfBadStore Q)
err_is Q (Ok value) stop is named = absurd is
err_is Q (Err e) stop is named = subst (IfBadStore Q) (sym is) named

pub none_by_length : (content : Content) (size : Option ℕ) → IsLength content size → is_some size ≡ false → content ≡ None
none_by_length content None is none = is
none_by_length content (Some size) is none = absurd (false≢true (sym none))

pub vector_bad : (conf : Settings) (k : ℕ) (s : State) (folder : Names) → folder ≡ folder_of (Vector k) → k < 10 ^ 10 → IsSure (Vector k) s → (path : Names) (line : ℕ) → IsBadStore is_value s folder conf.reducers path line → IsNotAsMade conf s path line
vector_bad conf k s folder is few sure path line bad =
    inr (inl (record { k = k; few = few; is = record { whole = sure; bad = subst (λ (names : Names). IsBadStore is_value s names conf.reducers path line) is bad } }))

pub result_bad : (conf : Settings) (s : State) (folder : Names) → folder ≡ folder_of Results → IsSure Results s → (path : Names) (line : ℕ) → IsBadStore is_result s folder conf.reducers path line → IsNotAsMade conf s path line
result_bad conf s folder is sure path line bad =
    inr (inr (inl (record { whole = sure; bad = subst (λ (names : Names). IsBadStore is_result s names conf.reducers path line) is bad })))

still_at : (conf : Settings) (k : ℕ) (s : State) → k ≡ conf.nodes → conf.command ≡ Hcc → k < 10 ^ 10 → IsSure (Vector k) s → AreGood is_value s (folder_of (Vector k)) conf.reducers → (part : ℕ) (path : Names) (line : ℕ) → first_change (records_below s (folder_of (Vector k)) conf.reducers) ≡ Some (record { part = part; line = line }) → path ≡ part_of (folder_of (Vector k)) part → StillChanges conf s path line
still_at conf k s bound command few sure good part path line first named =
    record {
      command = command;
      few = subst (λ (n : ℕ). n < 10 ^ 10) bound few;
      whole = subst (λ (n : ℕ). IsSure (Vector n) s) bound sure;
      good = subst (λ (n : ℕ). AreGood is_value s (folder_of (Vector n)) conf.reducers) bound good;
      part = part;
      first = subst (λ (n : ℕ). first_change (records_below s (folder_of (Vector n)) conf.reducers) ≡ Some (record { part = part; line = line })) bound first;
      named = subst (λ (n : ℕ). path ≡ part_of (folder_of (Vector n)) part) bound named;
    }

pub still_changes : (conf : Settings) (k : ℕ) (s : State) (folder : Names) (seen : Option Spot) → folder ≡ folder_of (Vector k) → k < 10 ^ 10 → IsSure (Vector k) s → AreGood is_value s folder conf.reducers → seen ≡ first_change (records_below s folder conf.reducers) → (path : Names) (line : ℕ) → NamesChange conf k folder seen path line → IsNotAsMade conf s path line
still_changes conf k s folder seen is few sure good first path line names =
    inr (inr (inr (still_at conf k s names.bound names.command few sure (subst (λ (n : Names). AreGood is_value s n conf.reducers) is good) names.part path line (subst (λ (n : Names). first_change (records_below s n conf.reducers) ≡ Some (record { part = names.part; line = line })) is (sym first ∙ names.is)) (subst (λ (n : Names). path ≡ part_of n names.part) is names.named))))

-- the messages of an iteration stand while its vector is made
pub messages_stand : (k : ℕ) (s t : State) → 1 ≤ k → k < 10 ^ 10 → StandsOutside (folder_of (Vector k)) s t → IsSure (Messages k) s → IsSure (Messages k) t
messages_stand k s t some few outside sure =
    let mark = success_of (folder_of (Messages k)) in
    ⊎_elim (λ same. absurd (false≢true (sym (ap is_messages same)))) (λ apart. sure_same (Messages k) s t (outside mark (apart mark (under-append (folder_of (Messages k)) (success_name ∷ [])))) sure) (same_or_apart (Messages k) (Vector k) (some, few) few)
