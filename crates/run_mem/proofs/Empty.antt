-- An empty work folder is kept, whatever is mined.
use Rattle.std.proofs.Common.{◌≡◌, sym, ap, subst, ℕ, List, [], ◌∷◌, Option, None, inl, inr}
use Rattle.std.specs.Prelude.{IsSome}
use Rattle.std.proofs.lemmas.Bool.{false≢true}
use Rattle.dir_disk.specs.Moments.{EachImage, Told, files}
use Rattle.dir_disk.specs.State.{Allows, Content, Fits, Gone, Image, State, no_files}
use Rattle.dir_disk.proofs.Through.{at_end}
use Rattle.committer.specs.Paths.{success_of}
use Rattle.mining.specs.declared.place.Place.{Place}
use Rattle.mining.specs.declared.place.Place.TheVariants.{Edges, Vector}
use Rattle.mining.specs.Places.{folder_of}
use Rattle.mining.specs.Flow.{Mining}
use Rattle.mining.specs.Kept.{AllKept, Has}
use Rattle.graph.specs.declared.edges.Edge.{Edge}
use Rattle.conf.specs.declared.reading.Conf.{Conf as Settings}
use Rattle.driver.specs.Headline.{HasWritten, WhereverItStops}
use Rattle.driver.specs.Opening.{IsFrom}
use Rattle.driver.specs.Logged.{LogsPast, TellsOfOutcome}
use Rattle.driver.specs.declared.outcome.Outcome.{Outcome}
use Rattle.dir_disk.specs.Children.{Given, Seen}
use Rattle.dir_disk.specs.declared.site.LogEntry.{LogEntry}
use Rattle.job.specs.Failing.{gained}

-- what is absent is there in no image
stays_absent : (content : Content) → Allows (Gone ∷ []) content → content ≡ None
stays_absent content (inl none) = none
stays_absent content (inr never) = absurd never

none_whole : (image : Image) → Fits no_files image → (place : Place) → Has place image → ⊥
none_whole image fits place has =
    let mark = success_of (folder_of place) in
    false≢true (subst IsSome (stays_absent (image mark) (fits mark)) has)

kept_empty : (mining : Mining) → AllKept mining no_files
kept_empty mining image fits = record {
  conf = λ has. absurd (none_whole image fits Edges has);
  contents = λ place is_there other has. absurd (none_whole image fits place has);
  order = λ place earlier is_there made precedes has. absurd (none_whole image fits place has);
  bounds = λ place is_there has. absurd (none_whole image fits place has);
}

pub empty_is_kept : (mining : Mining) (state : State) → state ≡ no_files → AllKept mining state
empty_is_kept mining state is = subst (AllKept mining) (sym is) (kept_empty mining)

pub empty_begins : (most : ℕ) (state : State) → state ≡ no_files → IsFrom most state None
empty_begins most state is = ap (λ (s : State). (s (success_of (folder_of (Vector 0)))).now) is

-- what holds wherever a machine stops holds of each image at the end
pub each_at_end : (P : Image → Type 0) (old new : Told) → WhereverItStops P old new → (image : Image) → Fits (files new) image → P image
each_at_end P old new all =
    at_end (EachImage P) (λ (s : State). (image : Image) → Fits s image → P image) old new all.1 all.0 (λ s t each image fits. each image (λ path. inr (fits path)))

-- what was said before is what the console had
pub written_after : (conf : Settings) (accepted : List Edge) (k : Option ℕ) (before start now : Option (List ℕ)) (state : State) → before ≡ start → HasWritten conf accepted k before now state → HasWritten conf accepted k start now state
written_after conf accepted k before start now state same written =
    subst (λ (b : Option (List ℕ)). HasWritten conf accepted k b now state) same written

-- all of the log was gained
pub logs_after : (gives : List (List ℕ) → List ℕ → List ℕ) (conf : Settings) (old start new : Seen) (had first has : List Given) (told : Told) (outcome : Outcome) → old ≡ start → had ≡ first → LogsPast (Unit {0}) gives conf None old new had has told outcome → LogsPast (Unit {0}) gives conf None start new first has told outcome
logs_after gives conf old start new had first has told outcome seen given logs =
    subst (λ (g : List Given). LogsPast (Unit {0}) gives conf None start new g has told outcome) given (subst (λ (s : Seen). LogsPast (Unit {0}) gives conf None s new had has told outcome) seen logs)

pub answers_after : (old new : List LogEntry) (outcome : Outcome) → old ≡ [] → TellsOfOutcome (gained old new) outcome → TellsOfOutcome new outcome
answers_after old new outcome none told =
    subst (λ (l : List LogEntry). TellsOfOutcome (gained l new) outcome) none told
