-- The flow of a folder is what its job makes of the flow of the folders that it reads.
use Rattle.std.proofs.Common.{◌≡◌, ℕ, zero, suc, ◌+◌, ◌-◌, ◌*◌, ◌<◌, ◌≤◌, Bool, true, false, if◌then◌else◌, ⊎_elim, List, [], ◌∷◌, ◌++◌, length, refl, sym, ◌∙◌, ap, arith}
use Rattle.std.specs.Prelude.{unwrap_or}
use Rattle.std.specs.List.{AllByRecursion, flat_map}
use Rattle.std.proofs.lemmas.Bool.{false≢true, cases_Bool}
use Rattle.conf.specs.declared.commands.Form.{Form}
use Rattle.conf.specs.declared.commands.Form.TheVariants.{Base, Block, Clustered, Diagonal}
use Rattle.job.specs.Output.{job_parts}
use Rattle.job.proofs.OutputLemmas.{length-job_parts}
use Rattle.mining.specs.declared.place.Place.{Place}
use Rattle.mining.specs.declared.place.Place.TheVariants.{Conf, Edges, Nodes, Placed, Matrix, Blocks, Messages, Vector, Joined, Results}
use Rattle.mining.specs.Places.{is_sealed}
use Rattle.mining.specs.Table.{inputs_of, matrix_for, part_count}
use Rattle.mining.specs.Flow.{Mining, depth_of, flow, flow_to, last_of, made, parts_within, plan_for, sealed_parts}

-- ---- each input stands over fewer jobs

pub inputs_lower : (form : Form) (last : ℕ) (place : Place) → AllByRecursion (λ input. depth_of last input < depth_of last place) (inputs_of form last place)
unfolding depth_of
inputs_lower form last Conf = tt
inputs_lower form last Edges = tt
inputs_lower form last Nodes = tt
inputs_lower form last Placed = tt
inputs_lower Base last Matrix = (omega arith, tt)
inputs_lower Block last Matrix = (omega arith, tt)
inputs_lower Clustered last Matrix = (omega arith, tt)
inputs_lower Diagonal last Matrix = (omega arith, tt)
inputs_lower form last Blocks = (omega arith, tt)
inputs_lower form last (Messages zero) = tt
inputs_lower Base last (Messages (suc k)) = (omega arith, (omega arith, tt))
inputs_lower Block last (Messages (suc k)) = (omega arith, (omega arith, tt))
inputs_lower Clustered last (Messages (suc k)) = (omega arith, (omega arith, tt))
inputs_lower Diagonal last (Messages (suc k)) = (omega arith, (omega arith, tt))
inputs_lower form last (Vector zero) = (omega arith, tt)
inputs_lower form last (Vector (suc k)) = (omega arith, tt)
inputs_lower form last Joined = (omega arith, (omega arith, tt))
inputs_lower Base last Results = (omega arith, tt)
inputs_lower Block last Results = (omega arith, tt)
inputs_lower Clustered last Results = (omega arith, tt)
inputs_lower Diagonal last Results = (omega arith, tt)

job_is_deep : (last : ℕ) (place : Place) → is_sealed place ≡ false → 1 ≤ depth_of last place
unfolding depth_of
job_is_deep last Conf job = absurd (false≢true (sym job))
job_is_deep last Edges job = absurd (false≢true (sym job))
job_is_deep last Nodes job = absurd (false≢true (sym job))
job_is_deep last Placed job = absurd (false≢true (sym job))
job_is_deep last Matrix job = omega arith
job_is_deep last Blocks job = omega arith
job_is_deep last (Messages k) job = omega arith
job_is_deep last (Vector k) job = omega arith
job_is_deep last Joined job = omega arith
job_is_deep last Results job = omega arith

-- ---- the bound on the depth doesn't matter

pub flat_map_same : (f g : Place → List (List ℕ)) (places : List Place) → AllByRecursion (λ place. f place ≡ g place) places → flat_map f places ≡ flat_map g places
flat_map_same f g [] same = refl
flat_map_same f g (place ∷ places) same =
    ap (λ (xs : List (List ℕ)). xs ++ flat_map f places) same.0 ∙ ap (λ (xs : List (List ℕ)). g place ++ xs) (flat_map_same f g places same.1)

made_same : (mining : Mining) (last : ℕ) (place : Place) (f g : Place → List (List ℕ)) → AllByRecursion (λ input. f input ≡ g input) (inputs_of mining.conf.form last place) → made mining last place f ≡ made mining last place g
made_same mining last place f g same =
    ap (λ (inputs : List (List ℕ)). job_parts mining.gives (plan_for mining.conf place inputs)) (flat_map_same f g (inputs_of mining.conf.form last place) same)

of_sealed : (mining : Mining) (last depth : ℕ) (place : Place) → is_sealed place ≡ true → parts_within mining last depth place ≡ sealed_parts mining place
unfolding parts_within
of_sealed mining last zero place sealed = refl
of_sealed mining last (suc depth) place sealed =
    ap (λ (test : Bool). if test then sealed_parts mining place else made mining last place (parts_within mining last depth)) sealed

of_job : (mining : Mining) (last depth : ℕ) (place : Place) → is_sealed place ≡ false → parts_within mining last (suc depth) place ≡ made mining last place (parts_within mining last depth)
unfolding parts_within
of_job mining last depth place job =
    ap (λ (test : Bool). if test then sealed_parts mining place else made mining last place (parts_within mining last depth)) job

pub each_then : (P Q : Place → Type 0) (places : List Place) → ((place : Place) → P place → Q place) → AllByRecursion P places → AllByRecursion Q places
each_then P Q [] weak all = tt
each_then P Q (place ∷ places) weak all = (weak place all.0, each_then P Q places weak all.1)

deep_enough : (mining : Mining) (last d e : ℕ) (place : Place) → depth_of last place ≤ d → depth_of last place ≤ e → parts_within mining last d place ≡ parts_within mining last e place
deep_enough mining last zero e place first second =
    ⊎_elim (λ sealed. of_sealed mining last zero place sealed ∙ sym (of_sealed mining last e place sealed)) (λ job. let deep = job_is_deep last place job in absurd (omega (arith, deep, first))) (cases_Bool (is_sealed place))
deep_enough mining last (suc d) zero place first second =
    ⊎_elim (λ sealed. of_sealed mining last (suc d) place sealed ∙ sym (of_sealed mining last zero place sealed)) (λ job. let deep = job_is_deep last place job in absurd (omega (arith, deep, second))) (cases_Bool (is_sealed place))
deep_enough mining last (suc d) (suc e) place first second =
    ⊎_elim (λ sealed. of_sealed mining last (suc d) place sealed ∙ sym (of_sealed mining last (suc e) place sealed)) (λ job. of_job mining last d place job ∙ made_same mining last place (parts_within mining last d) (parts_within mining last e) (each_then (λ input. depth_of last input < depth_of last place) (λ input. parts_within mining last d input ≡ parts_within mining last e input) (inputs_of mining.conf.form last place) (λ input lower. deep_enough mining last d e input (omega (arith, lower, first)) (omega (arith, lower, second))) (inputs_lower mining.conf.form last place)) ∙ sym (of_job mining last e place job)) (cases_Bool (is_sealed place))

pub flow_to_made : (mining : Mining) (last : ℕ) (place : Place) → is_sealed place ≡ false → flow_to mining last place ≡ made mining last place (flow_to mining last)
flow_to_made mining last place job =
    let depth = depth_of last place in
    deep_enough mining last depth (suc depth) place (omega arith) (omega arith) ∙ of_job mining last depth place job ∙ made_same mining last place (parts_within mining last depth) (flow_to mining last) (each_then (λ input. depth_of last input < depth_of last place) (λ input. parts_within mining last depth input ≡ flow_to mining last input) (inputs_of mining.conf.form last place) (λ input lower. deep_enough mining last depth (depth_of last input) input (omega (arith, lower)) (omega arith)) (inputs_lower mining.conf.form last place))

pub flow_made : (mining : Mining) (place : Place) → is_sealed place ≡ false → flow mining place ≡ made mining (unwrap_or (last_of mining) 0) place (flow mining)
unfolding flow
flow_made mining place job = flow_to_made mining (unwrap_or (last_of mining) 0) place job

pub length-flow_job : (mining : Mining) (place : Place) → is_sealed place ≡ false → length (flow mining place) ≡ mining.conf.reducers
length-flow_job mining place job =
    ap (λ (parts : List (List ℕ)). length parts) (flow_made mining place job) ∙ length-job_parts mining.gives (plan_for mining.conf place (flat_map (flow mining) (inputs_of mining.conf.form (unwrap_or (last_of mining) 0) place)))

one_part : (mining : Mining) (place : Place) → is_sealed place ≡ true → length (sealed_parts mining place) ≡ 1
one_part mining Conf sealed = refl
one_part mining Edges sealed = refl
one_part mining Nodes sealed = refl
one_part mining Placed sealed = refl
one_part mining Matrix sealed = absurd (false≢true sealed)
one_part mining Blocks sealed = absurd (false≢true sealed)
one_part mining (Messages k) sealed = absurd (false≢true sealed)
one_part mining (Vector k) sealed = absurd (false≢true sealed)
one_part mining Joined sealed = absurd (false≢true sealed)
one_part mining Results sealed = absurd (false≢true sealed)

pub length-flow : (mining : Mining) (place : Place) → length (flow mining place) ≡ part_count mining.conf place
unfolding flow
length-flow mining place =
    ⊎_elim (λ sealed. ap (λ (parts : List (List ℕ)). length parts) (of_sealed mining (unwrap_or (last_of mining) 0) (depth_of (unwrap_or (last_of mining) 0) place) place sealed) ∙ one_part mining place sealed ∙ sym (ap (λ (test : Bool). if test then 1 else mining.conf.reducers) sealed)) (λ job. length-flow_job mining place job ∙ sym (ap (λ (test : Bool). if test then 1 else mining.conf.reducers) job)) (cases_Bool (is_sealed place))

-- ---- vectors don't depend on which iteration is the last one

abbrev is_early : Place → Bool
is_early Joined = false
is_early Results = false
is_early _ = true

early_inputs : (form : Form) (place : Place) (last other : ℕ) → is_early place ≡ true → inputs_of form last place ≡ inputs_of form other place
early_inputs form Conf last other early = refl
early_inputs form Edges last other early = refl
early_inputs form Nodes last other early = refl
early_inputs form Placed last other early = refl
early_inputs form Matrix last other early = refl
early_inputs form Blocks last other early = refl
early_inputs form (Messages zero) last other early = refl
early_inputs form (Messages (suc k)) last other early = refl
early_inputs form (Vector zero) last other early = refl
early_inputs form (Vector (suc k)) last other early = refl
early_inputs form Joined last other early = absurd (false≢true early)
early_inputs form Results last other early = absurd (false≢true early)

inputs_early : (form : Form) (place : Place) (last : ℕ) → is_early place ≡ true → AllByRecursion (λ input. is_early input ≡ true) (inputs_of form last place)
inputs_early form Conf last early = tt
inputs_early form Edges last early = tt
inputs_early form Nodes last early = tt
inputs_early form Placed last early = tt
inputs_early Base Matrix last early = (refl, tt)
inputs_early Block Matrix last early = (refl, tt)
inputs_early Clustered Matrix last early = (refl, tt)
inputs_early Diagonal Matrix last early = (refl, tt)
inputs_early form Blocks last early = (refl, tt)
inputs_early form (Messages zero) last early = tt
inputs_early Base (Messages (suc k)) last early = (refl, (refl, tt))
inputs_early Block (Messages (suc k)) last early = (refl, (refl, tt))
inputs_early Clustered (Messages (suc k)) last early = (refl, (refl, tt))
inputs_early Diagonal (Messages (suc k)) last early = (refl, (refl, tt))
inputs_early form (Vector zero) last early = (refl, tt)
inputs_early form (Vector (suc k)) last early = (refl, tt)
inputs_early form Joined last early = absurd (false≢true early)
inputs_early form Results last early = absurd (false≢true early)

early_same : (mining : Mining) (last other depth : ℕ) (place : Place) → is_early place ≡ true → parts_within mining last depth place ≡ parts_within mining other depth place
unfolding parts_within
early_same mining last other zero place early = refl
early_same mining last other (suc depth) place early =
    ⊎_elim (λ sealed. of_sealed mining last (suc depth) place sealed ∙ sym (of_sealed mining other (suc depth) place sealed)) (λ job. of_job mining last depth place job ∙ made_same mining last place (parts_within mining last depth) (parts_within mining other depth) (each_then (λ input. is_early input ≡ true) (λ input. parts_within mining last depth input ≡ parts_within mining other depth input) (inputs_of mining.conf.form last place) (λ input e. early_same mining last other depth input e) (inputs_early mining.conf.form place last early)) ∙ ap (λ (inputs : List Place). job_parts mining.gives (plan_for mining.conf place (flat_map (parts_within mining other depth) inputs))) (early_inputs mining.conf.form place last other early) ∙ sym (of_job mining other depth place job)) (cases_Bool (is_sealed place))

pub vector_flow : (mining : Mining) (k : ℕ) → flow mining (Vector k) ≡ flow_to mining 0 (Vector k)
unfolding flow depth_of
vector_flow mining k = early_same mining (unwrap_or (last_of mining) 0) 0 (3 + 2 * k) (Vector k) refl

-- ---- the table by cases on a number

pub inputs_of_messages : (form : Form) (last k : ℕ) → 1 ≤ k → inputs_of form last (Messages k) ≡ matrix_for form ∷ Vector (k - 1) ∷ []
inputs_of_messages form last zero some = absurd (omega arith)
inputs_of_messages form last (suc k) some =
    let is : suc k - 1 ≡ k = omega arith in
    ap (λ (j : ℕ). matrix_for form ∷ Vector j ∷ []) (sym is)

pub inputs_of_no_messages : (form : Form) (last k : ℕ) → k ≡ 0 → inputs_of form last (Messages k) ≡ []
inputs_of_no_messages form last k none = ap (λ (j : ℕ). inputs_of form last (Messages j)) none

pub inputs_of_vector : (form : Form) (last k : ℕ) → 1 ≤ k → inputs_of form last (Vector k) ≡ Messages k ∷ []
inputs_of_vector form last zero some = absurd (omega arith)
inputs_of_vector form last (suc k) some = refl

-- ---- folders that the driver writes

sealed_within : (mining : Mining) (last depth : ℕ) (place : Place) → is_sealed place ≡ true → parts_within mining last depth place ≡ sealed_parts mining place
unfolding parts_within
sealed_within mining last zero place sealed = refl
sealed_within mining last (suc depth) place sealed =
    ap (λ (b : Bool). if b then sealed_parts mining place else made mining last place (parts_within mining last depth)) sealed

pub flow_sealed : (mining : Mining) (place : Place) → is_sealed place ≡ true → flow mining place ≡ sealed_parts mining place
unfolding flow
flow_sealed mining place sealed =
    sealed_within mining (unwrap_or (last_of mining) 0) (depth_of (unwrap_or (last_of mining) 0) place) place sealed
