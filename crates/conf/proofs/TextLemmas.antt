-- Confs are read back from the lines of their texts.
use Rattle.std.proofs.Common.{◌≡◌, ◌≢◌, ℕ, ◌<◌, ◌^◌, Bool, true, false, List, [], ◌∷◌, ◌++◌, Some, None, decimal, codes, eqb, refl, sym, ap, ◌∙◌, subst, arith, inl, inr, lit<}
use Rattle.std.specs.List.{flat_map, list_all, list_any, All}
use Rattle.std.specs.Char.{is_ascii_digit}
use Rattle.std.proofs.lemmas.Bool.{cases_Bool, and_parts, or_parts, true≢false, eqb-false}
use Rattle.std.proofs.lemmas.List.Elements.{All-nil, All-cons, All-append}
use Rattle.peg_text.specs.Decimal.{decimal_of, is_short_numeral, DecimalsReadBack}
use Rattle.peg_text.specs.Records.{records_of, HasNoLf, LinesReadBack}
use Rattle.conf.specs.declared.commands.Command.{Command}
use Rattle.conf.specs.declared.commands.Command.TheVariants.{Plain, Hcc, Hadi, PageRank}
use Rattle.conf.specs.declared.commands.Form.{Form}
use Rattle.conf.specs.declared.commands.Form.TheVariants.{Base, Block, Clustered, Diagonal}
use Rattle.conf.specs.declared.reading.Conf.{Conf}
use Rattle.conf.specs.Commands.{command_named, form_name, form_named, name_of}
use Rattle.conf.specs.Texts.{block_lines, choice_name, lines_of, number_line, own_lines, text_of, word_line}
use Rattle.conf.specs.Laws.{FitsTypes, ShowTheSame, TextsTellConfs}

abbrev is_no_lf : ℕ → Type 0
is_no_lf b = b ≢ 10

-- a text with no LF, by a test
no_lf : (text : List ℕ) → list_any (λ b. eqb b 10) text ≡ false → HasNoLf text
no_lf [] h = All-nil is_no_lf
no_lf (b ∷ bs) h =
    let parts = or_parts (eqb b 10) (list_any (λ x. eqb x 10) bs) h in
    All-cons is_no_lf b bs (eqb-false b 10 parts.0) (no_lf bs parts.1)

digit_no_lf : (b : ℕ) → is_ascii_digit b ≡ true → b ≢ 10
digit_no_lf b is e =
    let P : ℕ → Type 0 = λ x. is_ascii_digit x ≡ true in
    let ten : is_ascii_digit 10 ≡ true = subst P e is in absurd (true≢false (sym ten))

digits_no_lf : (text : List ℕ) → list_all is_ascii_digit text ≡ true → HasNoLf text
digits_no_lf [] h = All-nil is_no_lf
digits_no_lf (b ∷ bs) h =
    let parts = and_parts (is_ascii_digit b) (list_all is_ascii_digit bs) h in
    All-cons is_no_lf b bs (digit_no_lf b parts.0) (digits_no_lf bs parts.1)

-- a text that is read as a number has digits alone
read_digits : (text : List ℕ) (n : ℕ) → decimal_of text ≡ Some n → list_all is_ascii_digit text ≡ true
read_digits text n h =
    elim (cases_Bool (is_short_numeral text)) [
      | inl is ↦ (and_parts _ _ is).1
      | inr isnt ↦
          let none : decimal_of text ≡ None = rw isnt refl in
          let clash : None ≡ Some n = sym none ∙ h in absurd (cc)
    ]

decimal_no_lf : DecimalsReadBack → (n : ℕ) → n < 2 ^ 64 → HasNoLf (decimal n)
decimal_no_lf back n h = digits_no_lf (decimal n) (read_digits (decimal n) n (back n h))

-- numbers with one text are one
one_number : DecimalsReadBack → (m n : ℕ) → m < 2 ^ 64 → n < 2 ^ 64 → decimal m ≡ decimal n → m ≡ n
one_number back m n hm hn e =
    let same : Some m ≡ Some n = sym (back m hm) ∙ ap decimal_of e ∙ back n hn in cc

-- a line of a text, and lines of one
pub record IsLine (line : List ℕ) : Type 0 where
  pub is : HasNoLf line

pub record AreLines (lines : List (List ℕ)) : Type 0 where
  pub all : All HasNoLf lines

no_line : AreLines []
no_line = record { all = All-nil HasNoLf }

more : {line : List ℕ} {lines : List (List ℕ)} → IsLine line → AreLines lines → AreLines (line ∷ lines)
more {line} {lines} one others = record { all = All-cons HasNoLf line lines one.is others.all }

both : {xs ys : List (List ℕ)} → AreLines xs → AreLines ys → AreLines (xs ++ ys)
both {xs} {ys} some others = record { all = All-append HasNoLf xs ys some.all others.all }

plain : (line : List ℕ) → list_any (λ b. eqb b 10) line ≡ false → IsLine line
plain line h = record { is = no_lf line h }

number_no_lf : DecimalsReadBack → (name : List ℕ) (n : ℕ) → list_any (λ b. eqb b 10) name ≡ false → n < 2 ^ 64 → IsLine (number_line name n)
number_no_lf back name n named h =
    record { is = All-append is_no_lf name (32 ∷ decimal n) (no_lf name named) (All-cons is_no_lf 32 (decimal n) (λ e. absurd (omega arith)) (decimal_no_lf back n h)) }

-- names are told apart
name_read_back : (c : Command) → command_named (name_of c) ≡ Some c
name_read_back Plain = refl
name_read_back Hcc = refl
name_read_back Hadi = refl
name_read_back PageRank = refl

one_command : (c d : Command) → name_of c ≡ name_of d → c ≡ d
one_command c d e =
    let same : Some c ≡ Some d = sym (name_read_back c) ∙ ap command_named e ∙ name_read_back d in cc

form_read_back : (f : Form) → form_named Hcc (form_name f) ≡ Some f
form_read_back Base = refl
form_read_back Block = refl
form_read_back Clustered = refl
form_read_back Diagonal = refl

one_form : (f g : Form) → form_name f ≡ form_name g → f ≡ g
one_form f g e =
    let same : Some f ≡ Some g = sym (form_read_back f) ∙ ap (form_named Hcc) e ∙ form_read_back g in cc

one_choice : (x y : Bool) → choice_name x ≡ choice_name y → x ≡ y
one_choice true true e = refl
one_choice false false e = refl
one_choice true false e = cc
one_choice false true e = cc

command_no_lf : (c : Command) → IsLine (word_line (codes "command") (name_of c))
command_no_lf Plain = plain _ refl
command_no_lf Hcc = plain _ refl
command_no_lf Hadi = plain _ refl
command_no_lf PageRank = plain _ refl

form_no_lf : (f : Form) → IsLine (word_line (codes "form") (form_name f))
form_no_lf Base = plain _ refl
form_no_lf Block = plain _ refl
form_no_lf Clustered = plain _ refl
form_no_lf Diagonal = plain _ refl

sym_no_lf : (x : Bool) → IsLine (word_line (codes "sym") (choice_name x))
sym_no_lf true = plain _ refl
sym_no_lf false = plain _ refl

block_no_lf : DecimalsReadBack → (f : Form) (n : ℕ) → n < 2 ^ 64 → AreLines (block_lines f n)
block_no_lf back Base n h = no_line
block_no_lf back Block n h = more (number_no_lf back (codes "block") n refl h) no_line
block_no_lf back Clustered n h = more (number_no_lf back (codes "block") n refl h) no_line
block_no_lf back Diagonal n h = more (number_no_lf back (codes "block") n refl h) no_line

own_no_lf : DecimalsReadBack → (c : Command) (conf : Conf) → FitsTypes conf → AreLines (own_lines c conf)
own_no_lf back Plain conf fits = no_line
own_no_lf back Hcc conf fits = no_line
own_no_lf back PageRank conf fits = more (number_no_lf back (codes "iters") conf.iters refl fits.iters) no_line
own_no_lf back Hadi conf fits =
    more (number_no_lf back (codes "hops") conf.hops refl fits.hops) (more (number_no_lf back (codes "seed") conf.seed refl fits.seed) (more (sym_no_lf conf.sym) no_line))

rest_no_lf : DecimalsReadBack → (conf : Conf) → FitsTypes conf → AreLines (block_lines conf.form conf.block ++ own_lines conf.command conf)
rest_no_lf back conf fits = both (block_no_lf back conf.form conf.block fits.block) (own_no_lf back conf.command conf fits)

lines_no_lf : DecimalsReadBack → (conf : Conf) → FitsTypes conf → AreLines (lines_of conf)
lines_no_lf back conf fits =
    more (number_no_lf back (codes "pegmine") 1 refl (lit< tt)) (more (command_no_lf conf.command) (more (number_no_lf back (codes "nodes") conf.nodes refl fits.nodes) (more (number_no_lf back (codes "reducers") conf.reducers refl fits.reducers) (more (number_no_lf back (codes "split") conf.split refl fits.split) (more (form_no_lf conf.form) (rest_no_lf back conf fits))))))

-- the lines are read back from the text
read_lines : DecimalsReadBack → LinesReadBack → (conf : Conf) → FitsTypes conf → records_of (text_of conf) ≡ lines_of conf
read_lines back lines_back conf fits = lines_back (lines_of conf) (lines_no_lf back conf fits).all

-- ---- from the lines to the fields

pub record SameFront (a b : Conf) : Type 0 where
  pub command : name_of a.command ≡ name_of b.command
  pub nodes : decimal a.nodes ≡ decimal b.nodes
  pub reducers : decimal a.reducers ≡ decimal b.reducers
  pub split : decimal a.split ≡ decimal b.split
  pub form : form_name a.form ≡ form_name b.form
  pub rest : block_lines a.form a.block ++ own_lines a.command a ≡ block_lines b.form b.block ++ own_lines b.command b

front : (a b : Conf) → lines_of a ≡ lines_of b → SameFront a b
front a b e = record { command = cc; nodes = cc; reducers = cc; split = cc; form = cc; rest = cc }

-- the lines of a form's block and of a command's own options
own_told : (f : Form) (m n : ℕ) (xs ys : List (List ℕ)) → block_lines f m ++ xs ≡ block_lines f n ++ ys → xs ≡ ys
own_told Base m n xs ys e = e
own_told Block m n xs ys e = cc
own_told Clustered m n xs ys e = cc
own_told Diagonal m n xs ys e = cc

block_told : (f : Form) (m n : ℕ) (xs ys : List (List ℕ)) → block_lines f m ++ xs ≡ block_lines f n ++ ys → f ≢ Base → decimal m ≡ decimal n
block_told Base m n xs ys e apart = absurd (apart refl)
block_told Block m n xs ys e apart = cc
block_told Clustered m n xs ys e apart = cc
block_told Diagonal m n xs ys e apart = cc

pub record SameOwn (c : Command) (a b : Conf) : Type 0 where
  pub iters : c ≡ PageRank → decimal a.iters ≡ decimal b.iters
  pub hops : c ≡ Hadi → decimal a.hops ≡ decimal b.hops
  pub seed : c ≡ Hadi → decimal a.seed ≡ decimal b.seed
  pub sym : c ≡ Hadi → choice_name a.sym ≡ choice_name b.sym

own_fields : (c : Command) (a b : Conf) → own_lines c a ≡ own_lines c b → SameOwn c a b
own_fields Plain a b e = record { iters = λ is. cc; hops = λ is. cc; seed = λ is. cc; sym = λ is. cc }
own_fields Hcc a b e = record { iters = λ is. cc; hops = λ is. cc; seed = λ is. cc; sym = λ is. cc }
own_fields PageRank a b e = record { iters = λ is. cc; hops = λ is. cc; seed = λ is. cc; sym = λ is. cc }
own_fields Hadi a b e = record { iters = λ is. cc; hops = λ is. cc; seed = λ is. cc; sym = λ is. cc }

fields : DecimalsReadBack → (a b : Conf) → FitsTypes a → FitsTypes b → SameFront a b → ShowTheSame a b
fields back a b fits_a fits_b told =
    let command = one_command a.command b.command told.command in
    let form = one_form a.form b.form told.form in
    let R : Form → Command → Type 0 = λ f c. block_lines a.form a.block ++ own_lines a.command a ≡ block_lines f b.block ++ own_lines c b in
    let rest : R a.form a.command = subst (λ f. R f a.command) (sym form) (subst (λ c. R b.form c) (sym command) told.rest) in
    let own = own_fields a.command a b (own_told a.form a.block b.block _ _ rest) in
    record {
      command = command;
      nodes = one_number back _ _ fits_a.nodes fits_b.nodes told.nodes;
      reducers = one_number back _ _ fits_a.reducers fits_b.reducers told.reducers;
      split = one_number back _ _ fits_a.split fits_b.split told.split;
      form = form;
      block = λ apart. one_number back _ _ fits_a.block fits_b.block (block_told a.form a.block b.block _ _ rest apart);
      iters = λ is. one_number back _ _ fits_a.iters fits_b.iters (own.iters is);
      hops = λ is. one_number back _ _ fits_a.hops fits_b.hops (own.hops is);
      seed = λ is. one_number back _ _ fits_a.seed fits_b.seed (own.seed is);
      sym = λ is. one_choice _ _ (own.sym is);
    }

-- ---- from the fields to the lines

same_block : (f : Form) (m n : ℕ) → (f ≢ Base → m ≡ n) → block_lines f m ≡ block_lines f n
same_block Base m n h = refl
same_block Block m n h = ap (block_lines Block) (h (λ e. cc))
same_block Clustered m n h = ap (block_lines Clustered) (h (λ e. cc))
same_block Diagonal m n h = ap (block_lines Diagonal) (h (λ e. cc))

same_own : (c : Command) (a b : Conf) → (c ≡ PageRank → a.iters ≡ b.iters) → (c ≡ Hadi → a.hops ≡ b.hops) → (c ≡ Hadi → a.seed ≡ b.seed) → (c ≡ Hadi → a.sym ≡ b.sym) → own_lines c a ≡ own_lines c b
same_own Plain a b iters hops seed choice = refl
same_own Hcc a b iters hops seed choice = refl
same_own PageRank a b iters hops seed choice = rw (iters refl) refl
same_own Hadi a b iters hops seed choice = rw (hops refl, seed refl, choice refl) refl

abbrev lines_from : Command → ℕ → ℕ → ℕ → Form → List (List ℕ) → List (List ℕ)
lines_from command nodes reducers split form rest =
    number_line (codes "pegmine") 1 ∷ word_line (codes "command") (name_of command) ∷ number_line (codes "nodes") nodes ∷ number_line (codes "reducers") reducers ∷ number_line (codes "split") split ∷ word_line (codes "form") (form_name form) ∷ rest

same_parts : (c c' : Command) (n n' r r' s s' : ℕ) (f f' : Form) (rest rest' : List (List ℕ)) → c ≡ c' → n ≡ n' → r ≡ r' → s ≡ s' → f ≡ f' → rest ≡ rest' → lines_from c n r s f rest ≡ lines_from c' n' r' s' f' rest'
same_parts c c' n n' r r' s s' f f' rest rest' ec en er es ef e = cc

rest_here : (a b : Conf) → a.command ≡ b.command → a.form ≡ b.form → block_lines a.form a.block ≡ block_lines a.form b.block → own_lines a.command a ≡ own_lines a.command b → block_lines a.form a.block ++ own_lines a.command a ≡ block_lines b.form b.block ++ own_lines b.command b
rest_here a b command form block own =
    let one = ap (λ (f : Form). block_lines f b.block) form in
    let other = ap (λ (c : Command). own_lines c b) command in
    ap (λ (xs : List (List ℕ)). xs ++ own_lines a.command a) (block ∙ one) ∙ ap (λ (xs : List (List ℕ)). block_lines b.form b.block ++ xs) (own ∙ other)

same_lines : (a b : Conf) → ShowTheSame a b → lines_of a ≡ lines_of b
same_lines a b same =
    let block = same_block a.form a.block b.block same.block in
    let own = same_own a.command a b same.iters same.hops same.seed same.sym in
    same_parts a.command b.command a.nodes b.nodes a.reducers b.reducers a.split b.split a.form b.form _ _ same.command same.nodes same.reducers same.split same.form (rest_here a b same.command same.form block own)

pub texts_tell_confs : DecimalsReadBack → LinesReadBack → TextsTellConfs
texts_tell_confs back lines_back a b fits_a fits_b = (
  λ e. fields back a b fits_a fits_b (front a b (sym (read_lines back lines_back a fits_a) ∙ ap records_of e ∙ read_lines back lines_back b fits_b)),
  λ same. ap (flat_map (λ (line : List ℕ). line ++ (10 ∷ []))) (same_lines a b same),
)
