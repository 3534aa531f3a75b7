use Rattle.std.proofs.Common.{◌≡◌, ◌∙◌, ap, sym, subst, [], ◌∷◌, map, length, Err, arith, rules}
use Rattle.std.proofs.lemmas.Result.{err_from_is_err_and}
use Rattle.scan_run.specs.Words.{WritingFiles, IsOfRows}
use Rattle.scan_run.proofs.BatchSteps.{err_same}
use Rattle.scan_run.proofs.FileSteps.{files_none, next_file, files_more, files_stop, files_part, files_all, none_left}
use Rattle.scan_run.proofs.run.write_files.Goals as goal

pub loop-file-init : goal.loop-file-init
loop-file-init g c = record {
  same = search rules;
  absences = search rules;
  read = search rules;
  write = search rules;
  left = search rules;
  writing = λ s contents before scanned tell taken. files_none c.args.body.now s contents before _ _ tell taken;
}

pub returns-in_err-write_file-clause-met : goal.returns-in_err-write_file-clause-met
returns-in_err-write_file-clause-met g c s contents before e fault scanned tell taken is named =
    let p = err_from_is_err_and c.from_residual.result c.from_residual.ensures.1 in
    let same : c.in_err-write_file.field-0.0 ≡ e = sym p.2 ∙ err_same _ _ _ (sym p.1 ∙ is) in
    let items : c.loop-file.opened.items ≡ c.in-Some.source ∷ c.pop_front.new.self.items = c.in-Some.ensures.items in
    let w = subst (λ xs. WritingFiles c.args.body.now s contents before c.loop-file.file (map g.F.One.Source.told xs) (g.K.Sink.told c.loop-file.sink)) items
    (c.loop-file.invariant.writing s contents before scanned tell taken) in
    let n = next_file c.args.body.now s contents before c.loop-file.file (g.F.One.Source.told c.in-Some.source) (map g.F.One.Source.told c.pop_front.new.self.items) (g.K.Sink.told c.loop-file.sink) w in
    files_stop c.args.body.now s contents before c.loop-file.file (g.F.One.Source.told c.in-Some.source) (map g.F.One.Source.told c.pop_front.new.self.items) (g.K.Sink.told c.loop-file.sink) (g.K.Sink.told c.write_file.new.sink) e fault n (subst (IsOfRows c.loop-file.file) same c.in_err-write_file.ensures.kind)
    (c.in_err-write_file.ensures.met s n.bytes _ e fault scanned n.tells n.wrote.written (ap Err same) named)

pub returns-in_err-write_file-clause-part : goal.returns-in_err-write_file-clause-part
returns-in_err-write_file-clause-part g c s contents before scanned tell taken =
    let p = err_from_is_err_and c.from_residual.result c.from_residual.ensures.1 in
    let items : c.loop-file.opened.items ≡ c.in-Some.source ∷ c.pop_front.new.self.items = c.in-Some.ensures.items in
    let w = subst (λ xs. WritingFiles c.args.body.now s contents before c.loop-file.file (map g.F.One.Source.told xs) (g.K.Sink.told c.loop-file.sink)) items
    (c.loop-file.invariant.writing s contents before scanned tell taken) in
    let n = next_file c.args.body.now s contents before c.loop-file.file (g.F.One.Source.told c.in-Some.source) (map g.F.One.Source.told c.pop_front.new.self.items) (g.K.Sink.told c.loop-file.sink) w in
    rw p.1 (files_part c.args.body.now s contents before c.loop-file.file (g.F.One.Source.told c.in-Some.source) (map g.F.One.Source.told c.pop_front.new.self.items) (g.K.Sink.told c.loop-file.sink) (g.K.Sink.told c.write_file.new.sink) n (c.in_err-write_file.ensures.part s n.bytes _ scanned n.tells n.wrote.written))

pub loop-file-preserved : goal.loop-file-preserved
loop-file-preserved g c = record {
  same = search rules;
  absences = search rules;
  read = search rules;
  write = search rules;
  left = omega (arith, ap length c.in-Some.ensures.items, c.loop-file.invariant.left);
  writing = λ s contents before scanned tell taken.
      let items : c.loop-file.opened.items ≡ c.in-Some.source ∷ c.pop_front.new.self.items = c.in-Some.ensures.items in
      let w = subst (λ xs. WritingFiles c.args.body.now s contents before c.loop-file.file (map g.F.One.Source.told xs) (g.K.Sink.told c.loop-file.sink)) items
      (c.loop-file.invariant.writing s contents before scanned tell taken) in
      let n = next_file c.args.body.now s contents before c.loop-file.file (g.F.One.Source.told c.in-Some.source) (map g.F.One.Source.told c.pop_front.new.self.items) (g.K.Sink.told c.loop-file.sink) w in
      files_more c.args.body.now s contents before c.loop-file.file (g.F.One.Source.told c.in-Some.source) (map g.F.One.Source.told c.pop_front.new.self.items) (g.K.Sink.told c.loop-file.sink) (g.K.Sink.told c.write_file.new.sink) n (c.in_ok-write_file.ensures.all s n.bytes _ scanned n.tells n.wrote.written);
}

pub returns-clause-all : goal.returns-clause-all
returns-clause-all g c s contents before scanned tell taken =
    let none : c.loop-file.opened.items ≡ [] = none_left c.loop-file.opened.items (omega arith) in
    let w = subst (λ xs. WritingFiles c.args.body.now s contents before c.loop-file.file (map g.F.One.Source.told xs) (g.K.Sink.told c.loop-file.sink)) none
    (c.loop-file.invariant.writing s contents before scanned tell taken) in
    files_all c.args.body.now s contents before c.loop-file.file _ w
