use Rattle.std.proofs.Common.{◌≡◌, Ok, Err, IsOk, MatchResult, refl, ap}
use Rattle.std.specs.Prelude.{Result}
use Rattle.std.proofs.lemmas.Result.{err_from_is_err_and}
use Rattle.dns_label.specs.UsedSymbols.StopsUsing.{refused, ended}
use Rattle.dns_label.proofs.symbols.Symbols.with.Goals as goal

-- the symbols have ended with the error that is returned
ends_badly : {C E : Type 0} (chars : Result C E) (told : Result (Unit {0}) E) (why : E)
    → MatchResult chars (λ chars. told ≡ Ok tt) (λ error. told ≡ Err error) → told ≡ Err why → chars ≡ Err why
ends_badly (Ok chars) told why says is = cc
ends_badly (Err error) told why says is = let same : error ≡ why = cc in ap (λ e. Err e) same

ends_well : {C E : Type 0} (chars : Result C E) (told : Result (Unit {0}) E)
    → MatchResult chars (λ chars. told ≡ Ok tt) (λ error. told ≡ Err error) → told ≡ Ok tt → IsOk chars
ends_well (Ok chars) told says is = refl
ends_well (Err error) told says is = cc

pub returns-in_err-made-clause-err : goal.returns-in_err-made-clause-err
returns-in_err-made-clause-err g c =
    let p = err_from_is_err_and c.from_residual.result c.from_residual.ensures.1 in
    rw (p.1, p.2) (
      _,
      refused (record {
        start = c.new-symbols.result;
        whole = c.new-symbols.ensures;
        called = record { shown = _; shows = refl; left = _; met = c.in_err-made.ensures; leaves = refl };
      }),
    )

pub returns-in_err-ok-clause-err : goal.returns-in_err-ok-clause-err
returns-in_err-ok-clause-err g c =
    let p = err_from_is_err_and c.from_residual-in_err-ok.result c.from_residual-in_err-ok.ensures.1 in
    rw p.1 (
      _,
      ended c.in_ok-made.made _ (record {
        start = c.new-symbols.result;
        whole = c.new-symbols.ensures;
        called = record { shown = _; shows = refl; left = _; met = c.in_ok-made.ensures; leaves = refl };
      }) (ends_badly _ c.ok.result _ c.ok.ensures c.in_err-ok.was) p.2,
    )

pub returns-clause-ok : goal.returns-clause-ok
returns-clause-ok g c = (
  _,
  record {
    start = c.new-symbols.result;
    whole = c.new-symbols.ensures;
    called = record { shown = _; shows = refl; left = _; met = c.in_ok-made.ensures; leaves = refl };
  },
  ends_well _ c.ok.result c.ok.ensures c.in_ok-ok.was,
)
