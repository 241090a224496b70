use Rattle.std.proofs.Common.{◌≡◌, ◌≢◌, ◌∙◌, ◌++◌, [], List, ℕ, ap, subst, sym, arith}
use Rattle.std.proofs.lemmas.Grind.{common_steps}
use Rattle.dns_entry_scanner.proofs.Refused.{on_ok_weaker}
use Rattle.zone_general.specs.LongerEntries.{IsLongerEntry}
use Rattle.zone_general.specs.Readable.{AppendsReadable, GoesReadable}
use Rattle.zone_general.specs.Readable.AppendsReadable.{more}
use Rattle.zone_general.specs.Readable.GoesReadable.{read}
use Rattle.zone_general.specs.Seen.{context_in, octets_in, row_in, tokens_in}
use Rattle.dns_zonefile.specs.Entry.{Context}
use Rattle.zone_general.proofs.readable.append_row.Goals as goal

pub append_refused-requires : goal.append_refused-requires
append_refused-requires c = record {
  found = c.requires;
  refused = λ entry next is.
      c.in-Err.ensures.err (sym c.is_want_of_memory.ensures ∙ c.if-is_want_of_memory.false) entry next
      (subst (λ (context : Context). IsLongerEntry context (row_in c.args.row) entry next) c.in-Err.ensures.same is);
}

pub returns-in-Ok : goal.returns-in-Ok
returns-in-Ok c =
    let some : tokens_in c.args.row ≢ [] = grind (arith, common_steps) in
    let told = c.in-Ok.ensures.ok in more told.1 some (read told.2) told.3

pub returns-else-is_want_of_memory : goal.returns-else-is_want_of_memory
returns-else-is_want_of_memory c =
    let some : tokens_in c.args.row ≢ [] = grind (arith, common_steps) in
    let same : context_in c.append_refused.new.reader ≡ context_in c.args.reader.now = c.append_refused.ensures.same ∙ c.in-Err.ensures.same in
    on_ok_weaker c.append_refused.result _ _
    (λ told. subst (λ (after : Context). AppendsReadable (context_in c.args.reader.now) (row_in c.args.row) (octets_in c.args.row) after
    c.args.out.now.items c.append_refused.new.out.items) (sym same)
    (more told.others some
    (subst (λ (before : Context). GoesReadable before (row_in c.args.row) (octets_in c.args.row) told.others before) c.in-Err.ensures.same told.goes)
    (told.appended ∙ ap (λ (l : List ℕ). l ++ told.others) (c.in-Err.ensures.kept (sym c.is_want_of_memory.ensures ∙ c.if-is_want_of_memory.false)))))
    c.append_refused.ensures.goes
