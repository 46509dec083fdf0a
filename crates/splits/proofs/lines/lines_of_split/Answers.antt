use Rattle.std.proofs.Common.{◌≡◌, [], Some, None, refl, ◌∙◌, ap, sym, length}
use Rattle.std.proofs.lemmas.Result.{IfOk-weaker}
use Rattle.peg_base.proofs.Under.{under-refl}
use Rattle.dir_disk.specs.State.{after_append, bytes_at}
use Rattle.dir_disk.specs.Moments.{Told, files}
use Rattle.dir_disk.proofs.Keeping.{append_stands, stands_then}
use Rattle.dir_disk.proofs.Through.{kept}
use Rattle.splits.specs.Lines.{split_lines}
use Rattle.splits.specs.Copying.{BeginsAt, lines_between}
use Rattle.splits.proofs.CopyLemmas.{stands_looked, begun_copying, none_written, bytes_looked, begins_before, all_written}
use Rattle.splits.proofs.lines.lines_of_split.Goals as goal

pub returns-in_err-first_line-clause-stands : goal.returns-in_err-first_line-clause-stands
returns-in_err-first_line-clause-stands g c =
    λ tells.
    let out = c.args.out.now in
    let a : Told = g.D.Dir.told c.args.dir.now in
    let b : Told = g.D.Dir.told c.append.new.self in
    let d : Told = g.D.Dir.told c.first_line.new.dir in
    stands_then out a b d (append_stands out out [] a b c.append.result (under-refl out) (c.append.ensures.call tells) (λ q. g.met.D.Dir.now_allowed c.args.dir.now q tells)) (stands_looked out b d (c.first_line.ensures.stands tells))

pub copy_lines-requires-clause-copying : goal.copy_lines-requires-clause-copying
copy_lines-requires-clause-copying g c =
    λ tells.
    let path = c.args.path.now in
    let out = c.args.out.now in
    let split = c.args.split.now in
    let from = c.in-Some.from in
    let a : Told = g.D.Dir.told c.args.dir.now in
    let b : Told = g.D.Dir.told c.append.new.self in
    let d : Told = g.D.Dir.told c.first_line.new.dir in
    let is : files b ≡ after_append out [] (files a) = (c.in_ok-append.ensures.call tells).ok.1 in
    let same : files d ≡ files b = kept (λ state. state ≡ files b) b d (c.first_line.ensures.stands tells) refl in
    let begins : BeginsAt (bytes_at (files a) path) split (Some from) = begins_before path out (files a) (files b) split c.in_ok-first_line.field-0 (Some from) (c.requires.there tells) (c.requires.none tells) is c.in-Some.is (c.in_ok-first_line.ensures.found tells) in
    begun_copying path out (files a) (files d) from split.end (c.requires.there tells) (c.requires.none tells) (c.requires.can tells) (same ∙ is) begins.0 begins.1

pub returns-in-None-clause-written : goal.returns-in-None-clause-written
returns-in-None-clause-written g c =
    λ tells.
    let path = c.args.path.now in
    let out = c.args.out.now in
    let split = c.args.split.now in
    let a : Told = g.D.Dir.told c.args.dir.now in
    let b : Told = g.D.Dir.told c.append.new.self in
    let d : Told = g.D.Dir.told c.first_line.new.dir in
    let is : files b ≡ after_append out [] (files a) = (c.in_ok-append.ensures.call tells).ok.1 in
    let same : files d ≡ files b = kept (λ state. state ≡ files b) b d (c.first_line.ensures.stands tells) refl in
    let begins : BeginsAt (bytes_at (files a) path) split None = begins_before path out (files a) (files b) split c.in_ok-first_line.field-0 None (c.requires.there tells) (c.requires.none tells) is c.in-None.is (c.in_ok-first_line.ensures.found tells) in
    none_written out (split_lines split (bytes_at (files a) path)) (files a) (files d) (c.requires.none tells) (same ∙ is) begins

pub returns-in-None-clause-stands : goal.returns-in-None-clause-stands
returns-in-None-clause-stands g c =
    λ tells.
    let out = c.args.out.now in
    let a : Told = g.D.Dir.told c.args.dir.now in
    let b : Told = g.D.Dir.told c.append.new.self in
    let d : Told = g.D.Dir.told c.first_line.new.dir in
    stands_then out a b d (append_stands out out [] a b c.append.result (under-refl out) (c.append.ensures.call tells) (λ q. g.met.D.Dir.now_allowed c.args.dir.now q tells)) (stands_looked out b d (c.first_line.ensures.stands tells))

pub returns-in-Some-clause-count : goal.returns-in-Some-clause-count
returns-in-Some-clause-count g c =
    λ tells.
    let path = c.args.path.now in
    let out = c.args.out.now in
    let split = c.args.split.now in
    let from = c.in-Some.from in
    let a : Told = g.D.Dir.told c.args.dir.now in
    let b : Told = g.D.Dir.told c.append.new.self in
    let d : Told = g.D.Dir.told c.first_line.new.dir in
    let is : files b ≡ after_append out [] (files a) = (c.in_ok-append.ensures.call tells).ok.1 in
    let same : files d ≡ files b = kept (λ state. state ≡ files b) b d (c.first_line.ensures.stands tells) refl in
    let begins : BeginsAt (bytes_at (files a) path) split (Some from) = begins_before path out (files a) (files b) split c.in_ok-first_line.field-0 (Some from) (c.requires.there tells) (c.requires.none tells) is c.in-Some.is (c.in_ok-first_line.ensures.found tells) in
    let here : bytes_at (files d) path ≡ bytes_at (files a) path = bytes_looked path out (files a) (files d) (c.requires.there tells) (c.requires.none tells) (same ∙ is) in
    let lines : lines_between from split.end (bytes_at (files d) path) ≡ split_lines split (bytes_at (files a) path) = ap (lines_between from split.end) here ∙ sym begins.2 in
    IfOk-weaker c.copy_lines.result (λ count. count ≡ length (lines_between from split.end (bytes_at (files d) path))) (λ count. count ≡ length (split_lines split (bytes_at (files a) path))) (λ count counted. counted ∙ ap length lines) (c.copy_lines.ensures.count tells)

pub returns-in-Some-clause-written : goal.returns-in-Some-clause-written
returns-in-Some-clause-written g c =
    λ tells.
    let path = c.args.path.now in
    let out = c.args.out.now in
    let split = c.args.split.now in
    let from = c.in-Some.from in
    let a : Told = g.D.Dir.told c.args.dir.now in
    let b : Told = g.D.Dir.told c.append.new.self in
    let d : Told = g.D.Dir.told c.first_line.new.dir in
    let e : Told = g.D.Dir.told c.copy_lines.new.dir in
    let is : files b ≡ after_append out [] (files a) = (c.in_ok-append.ensures.call tells).ok.1 in
    let same : files d ≡ files b = kept (λ state. state ≡ files b) b d (c.first_line.ensures.stands tells) refl in
    let begins : BeginsAt (bytes_at (files a) path) split (Some from) = begins_before path out (files a) (files b) split c.in_ok-first_line.field-0 (Some from) (c.requires.there tells) (c.requires.none tells) is c.in-Some.is (c.in_ok-first_line.ensures.found tells) in
    let here : bytes_at (files d) path ≡ bytes_at (files a) path = bytes_looked path out (files a) (files d) (c.requires.there tells) (c.requires.none tells) (same ∙ is) in
    let lines : lines_between from split.end (bytes_at (files d) path) ≡ split_lines split (bytes_at (files a) path) = ap (lines_between from split.end) here ∙ sym begins.2 in
    all_written out (lines_between from split.end (bytes_at (files d) path)) (split_lines split (bytes_at (files a) path)) (files a) (files d) (files e) c.copy_lines.result (same ∙ is) lines (c.copy_lines.ensures.others tells) (c.copy_lines.ensures.text tells)

pub returns-in-Some-clause-stands : goal.returns-in-Some-clause-stands
returns-in-Some-clause-stands g c =
    λ tells.
    let out = c.args.out.now in
    let a : Told = g.D.Dir.told c.args.dir.now in
    let b : Told = g.D.Dir.told c.append.new.self in
    let d : Told = g.D.Dir.told c.first_line.new.dir in
    let e : Told = g.D.Dir.told c.copy_lines.new.dir in
    stands_then out a d e (stands_then out a b d (append_stands out out [] a b c.append.result (under-refl out) (c.append.ensures.call tells) (λ q. g.met.D.Dir.now_allowed c.args.dir.now q tells)) (stands_looked out b d (c.first_line.ensures.stands tells))) (c.copy_lines.ensures.stands tells)
