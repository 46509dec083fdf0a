-- Which outcome a stop becomes.
use Rattle.std.proofs.Common.{◌≡◌, ◌≢◌, ◌∙◌, ℕ, true, List, None, Some, refl, sym, ap, subst, arith}
use Rattle.std.specs.Prelude.{IfSome, OnOk, Ok, Option, Result, unwrap_or}
use Rattle.dir_disk.specs.Moments.{EachImage, Through, Told, files}
use Rattle.dir_disk.proofs.Through.{started}
use Rattle.edge_text.specs.Edges.{edges_of}
use Rattle.conf.specs.Commands.{is_mining}
use Rattle.conf.specs.Meaning.{Mean, conf_of}
use Rattle.conf.specs.declared.commands.Command.{Command}
use Rattle.conf.specs.declared.commands.Command.TheVariants.{Plain, Hcc, Hadi, PageRank}
use Rattle.conf.specs.declared.commands.Form.TheVariants.{Base}
use Rattle.conf.specs.declared.reading.Conf.{Conf as Settings}
use Rattle.dir_disk.specs.Streams.{AddsPart}
use Rattle.mining.specs.Flow.{last_of, mining_of, most_of}
use Rattle.mining.specs.Iterations.{console}
use Rattle.mining.specs.Kept.{AllKept, Kept}
use Rattle.dir_disk.specs.State.{State}
use Rattle.driver.specs.Opening.{HasRun, IsFrom, StaysOne}
use Rattle.driver.proofs.Starting.{nothing_part}
use Rattle.driver.specs.Running.{bytes_for, chosen}
use Rattle.mining.specs.declared.stop.Stop.{Stop}
use Rattle.dir_disk.specs.declared.streams.SayFault as Console
use Rattle.dir_disk.specs.declared.streams.SayFault.TheVariants as Say
use Rattle.driver.specs.declared.outcome.Outcome.{Outcome}
use Rattle.driver.specs.declared.outcome.Outcome.TheVariants.{Done, Usage, BadEdge, BigNode, TooLarge, OtherJob, OtherEdges, BadStore, TaskFailed, DiskFault, ReadFault, SayFault, NoMemory}
use Rattle.driver.specs.Outcomes.{code_of, outcome_of_console, outcome_of_stop}
use Rattle.driver.specs.Plain.{HasReason}

-- the stop that an outcome tells of
abbrev stop_of : Outcome → Option Stop
stop_of Done = None
stop_of (Usage word) = None
stop_of (BadEdge line) = Some (Stop.BadEdge line)
stop_of (BigNode line id) = Some (Stop.BigNode line id)
stop_of TooLarge = Some Stop.TooLarge
stop_of (OtherJob line) = Some (Stop.OtherJob line)
stop_of (OtherEdges line) = Some (Stop.OtherEdges line)
stop_of (BadStore path line) = Some (Stop.BadStore path line)
stop_of (TaskFailed task) = Some (Stop.TaskFailed task)
stop_of DiskFault = Some Stop.Disk
stop_of ReadFault = Some Stop.Read
stop_of SayFault = Some Stop.Say
stop_of NoMemory = Some Stop.NoMemory

told_back : (stop : Stop) → stop_of (outcome_of_stop stop) ≡ Some stop
told_back (Stop.TaskFailed task) = refl
told_back (Stop.BadStore path line) = refl
told_back (Stop.BadEdge line) = refl
told_back (Stop.BigNode line id) = refl
told_back Stop.TooLarge = refl
told_back (Stop.OtherJob line) = refl
told_back (Stop.OtherEdges line) = refl
told_back Stop.Disk = refl
told_back Stop.Read = refl
told_back Stop.Say = refl
told_back Stop.NoMemory = refl

-- stops become different outcomes
pub same_stop : (one two : Stop) → outcome_of_stop one ≡ outcome_of_stop two → one ≡ two
same_stop one two same =
    ap (λ (found : Option Stop). unwrap_or found one) (sym (told_back one) ∙ ap stop_of same ∙ told_back two)

some_is_none : {A : Type 0} {x : A} → Some x ≡ None → ⊥
some_is_none same = cc

-- a run that stopped is no run that is done, nor one whose words are refused
pub stop_is_not : (stop : Stop) (outcome : Outcome) → stop_of outcome ≡ None → outcome_of_stop stop ≡ outcome → ⊥
stop_is_not stop outcome none is = some_is_none (sym (told_back stop) ∙ ap stop_of is ∙ none)

pub not_done : (stop : Stop) → outcome_of_stop stop ≡ Done → ⊥
not_done stop is = stop_is_not stop Done refl is

pub no_usage : (stop : Stop) (word : ℕ) → outcome_of_stop stop ≡ Usage word → ⊥
no_usage stop word is = stop_is_not stop (Usage word) refl is

pub no_reason_disk : (n : ℕ) (left : Option (List ℕ)) (outcome : Outcome) → HasReason n left outcome → outcome ≢ DiskFault
no_reason_disk n left outcome reason is = subst (HasReason n left) is reason

pub no_reason_say : (n : ℕ) (left : Option (List ℕ)) (outcome : Outcome) → HasReason n left outcome → outcome ≢ SayFault
no_reason_say n left outcome reason is = subst (HasReason n left) is reason

pub console_no_disk : (fault : Console.SayFault) → outcome_of_console fault ≢ DiskFault
console_no_disk Say.Failed is = let codes = ap code_of is in omega (arith, codes)
console_no_disk Say.NoMemory is = let codes = ap code_of is in omega (arith, codes)

-- words mean one thing
same_command : (one two : Command) → Some one ≡ Some two → one ≡ two
same_command one two same = ap (λ (o : Option Command). unwrap_or o one) same

pub mean_one : (words : List (List ℕ)) (one two : Settings) → Mean words one → Mean words two → one ≡ two
mean_one words one two first second =
    first.is ∙ ap (conf_of words) (same_command one.command two.command (sym first.command_named ∙ second.command_named)) ∙ sym second.is

-- what was shown of the settings that were read, and of the bytes that they have read, holds of those that the words mean
pub meant_for : (P : Settings → Option (List ℕ) → Type 0) (words : List (List ℕ)) (left : Option (List ℕ)) (generated : Option (ℕ × ℕ)) (one two : Settings) → Mean words one → Mean words two → one.generated ≡ generated → P one (chosen generated one.nodes left) → P two (bytes_for two left)
meant_for P words left generated one two first second is holds =
    subst (λ (conf : Settings). P conf (bytes_for conf left)) (mean_one words one two first second) (subst (λ (g : Option (ℕ × ℕ)). P one (chosen g one.nodes left)) (sym is) holds)

pub mines_other : (command : Command) → (command ≡ Plain → ⊥) → is_mining command ≡ true
mines_other Plain other = absurd (other refl)
mines_other Hcc other = refl
mines_other Hadi other = refl
mines_other PageRank other = refl

-- ---- what is shown of a run for the settings and the bytes that it read

abbrev pub KeptFor : (List (List ℕ) → List ℕ → List ℕ) → Type 0 → Told → Told → Settings → Option (List ℕ) → Type 0
KeptFor gives tells d f conf left =
    is_mining conf.command ≡ true → conf.form ≡ Base → IfSome left (λ bytes. tells → AllKept (mining_of gives conf (edges_of conf.nodes bytes).edges) (files d) → Through (EachImage (Kept (mining_of gives conf (edges_of conf.nodes bytes).edges))) d f)

abbrev pub SaidFor : (List (List ℕ) → List ℕ → List ℕ) → Type 0 → Told → Option (List ℕ) → Option (List ℕ) → Settings → Option (List ℕ) → Type 0
SaidFor gives tells d before now conf left =
    is_mining conf.command ≡ true → conf.form ≡ Base → IfSome left (λ bytes. (k : Option ℕ) (l : ℕ) → tells → AllKept (mining_of gives conf (edges_of conf.nodes bytes).edges) (files d) → IsFrom (most_of conf conf.command) (files d) k → last_of (mining_of gives conf (edges_of conf.nodes bytes).edges) ≡ Some l → AddsPart before now (console (mining_of gives conf (edges_of conf.nodes bytes).edges) k l))

abbrev pub DoneFor : (List (List ℕ) → List ℕ → List ℕ) → Type 0 → Told → Told → Option (List ℕ) → Option (List ℕ) → Outcome → Settings → Option (List ℕ) → Type 0
DoneFor gives tells d f before now result conf left =
    is_mining conf.command ≡ true → conf.form ≡ Base → IfSome left (λ bytes. (k : Option ℕ) → tells → AllKept (mining_of gives conf (edges_of conf.nodes bytes).edges) (files d) → IsFrom (most_of conf conf.command) (files d) k → result ≡ Done → HasRun (mining_of gives conf (edges_of conf.nodes bytes).edges) k before now (files f))

-- nothing was said or done
pub none_said : (gives : List (List ℕ) → List ℕ → List ℕ) (tells : Type 0) (d : Told) (said : Option (List ℕ)) (conf : Settings) (left : Option (List ℕ)) → SaidFor gives tells d said said conf left
none_said gives tells d said conf None mines form = tt
none_said gives tells d said conf (Some bytes) mines form = λ k l told kept from last. nothing_part said said (console (mining_of gives conf (edges_of conf.nodes bytes).edges) k l) refl

pub none_kept : (gives : List (List ℕ) → List ℕ → List ℕ) (tells : Type 0) (d : Told) (conf : Settings) (left : Option (List ℕ)) → KeptFor gives tells d d conf left
none_kept gives tells d conf None mines form = tt
none_kept gives tells d conf (Some bytes) mines form = λ told kept. started (EachImage (Kept (mining_of gives conf (edges_of conf.nodes bytes).edges))) d

pub none_done : (gives : List (List ℕ) → List ℕ → List ℕ) (tells : Type 0) (d f : Told) (before now : Option (List ℕ)) (result : Outcome) (conf : Settings) (left : Option (List ℕ)) → (result ≡ Done → ⊥) → DoneFor gives tells d f before now result conf left
none_done gives tells d f before now result conf None other mines form = tt
none_done gives tells d f before now result conf (Some bytes) other mines form = λ k told kept from is. absurd (other is)

-- where all is done, a run from there has all that it says said
pub if_done : {E : Type 0} (gives : List (List ℕ) → List ℕ → List ℕ) (tells : Type 0) (d f : Told) (before now : Option (List ℕ)) (conf : Settings) (left : Option (List ℕ)) (result : Result (Unit {0}) E) (value : Unit {0}) → result ≡ Ok value → IfSome left (λ bytes. (k : Option ℕ) → tells → AllKept (mining_of gives conf (edges_of conf.nodes bytes).edges) (files d) → conf.form ≡ Base → IsFrom (most_of conf conf.command) (files d) k → OnOk result (HasRun (mining_of gives conf (edges_of conf.nodes bytes).edges) k before now (files f))) → DoneFor gives tells d f before now Done conf left
if_done gives tells d f before now conf None result value ok done mines form = tt
if_done gives tells d f before now conf (Some bytes) result value ok done mines form =
    λ k told kept from is. subst (λ (r : Result (Unit {0}) _). OnOk r (HasRun (mining_of gives conf (edges_of conf.nodes bytes).edges) k before now (files f))) ok (done k told kept form from)

pub none_stay : (s : State) → StaysOne s s
none_stay s place is_there stays conf one path inside image fits = one.one path inside (image path) (fits path)
