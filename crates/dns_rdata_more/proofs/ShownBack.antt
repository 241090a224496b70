-- Data of further types that is printed: its document is one row of tokens, and these are those of its row.
use Rattle.std.proofs.Common.{◌≡◌, ℕ, List, [], ◌∷◌, ◌++◌, ◌∙◌, map, refl, ap, sym, subst, append_assoc}
use Rattle.std.specs.Prelude.{Some}
use Rattle.std.specs.List.{AllZip}
use Rattle.dns_label.specs.Octets.{AreOctets}
use Rattle.dns_scan.specs.Token.{Token}
use Rattle.dns_text.specs.Document.{Piece}
use Rattle.dns_text.specs.Document.Piece.{Token as printed, Close, Newline}
use Rattle.dns_text.specs.DocumentRows.{HasRows, WritesToken}
use Rattle.dns_text.specs.DocumentRows.HasRows.{close, newline, none, open', token}
use Rattle.dns_fields.specs.Fields.{Field, octets}
use Rattle.dns_fields_more.specs.declared.form.Form.{Form}
use Rattle.dns_fields_more.specs.Forms.{AreFieldsOf, IsFurtherData, IsFurtherRow}
use Rattle.dns_fields_more.specs.Printed.{HasNoEmptyRest, IsPrintedAs}
use Rattle.dns_fields_more.specs.Text.{AppendsFurther, ScansFurther}
use Rattle.dns_rdata_more.specs.FurtherData.{forms_or_none, row_read}
use Rattle.dns_rdata_more.specs.Shown.{forms_tokens, further_document, further_tokens}
use Rattle.dns_rdata_more.proofs.Rows.{forms_one, row_back}
use Rattle.dns_rdata_more.proofs.ShownRows.{all_one}

-- the tokens of a block, and the end of its line
block_row : (texts : List (List ℕ)) (tokens : List Token) → AllZip WritesToken tokens texts
    → HasRows 1 (map printed texts ++ (Close ∷ Newline ∷ [])) (tokens ∷ [])
block_row [] [] writes = close (newline none)
block_row [] (first ∷ tokens) writes = absurd writes
block_row (text ∷ texts) [] writes = absurd writes
block_row (text ∷ texts) (first ∷ tokens) writes = token writes.0 (block_row texts tokens writes.1)

pub document_row : (rtype : ℕ) (given : List ℕ) (tokens : List Token) → AllZip WritesToken tokens (further_tokens rtype given)
    → HasRows 0 (further_document rtype given ++ Newline ∷ []) (tokens ∷ [])
unfolding further_document
document_row rtype given tokens writes =
    let pieces : List Piece = map printed (further_tokens rtype given) in
    open' (subst (λ (l : List Piece). HasRows 1 l (tokens ∷ [])) (sym (append_assoc pieces (Close ∷ []) (Newline ∷ [])))
    (block_row (further_tokens rtype given) tokens writes))

-- texts that are the same pieces are the same
pieces_one : (texts others : List (List ℕ)) → map printed texts ≡ map printed others → texts ≡ others
pieces_one [] [] same = refl
pieces_one [] (other ∷ others) same = absurd (cc)
pieces_one (text ∷ texts) [] same = absurd (cc)
pieces_one (text ∷ texts) (other ∷ others) same =
    let first : text ≡ other = cc in
    let behind : map printed texts ≡ map printed others = cc in
    let rest = pieces_one texts others behind in
    λ i. first i ∷ rest i

module _ {rtype : ℕ} {given : List ℕ} (are : IsFurtherData rtype given) where
  row_is : row_read rtype given ≡ are.row
  row_is = ap (row_read rtype) are.written ∙ row_back rtype are.row are.is_row

  -- the tokens that the row is printed as have these texts
  texts_are : (tokens : List Token) (shows : IsPrintedAs rtype are.row tokens) → shows.texts ≡ further_tokens rtype given
  unfolding further_tokens
  texts_are tokens shows =
      let forms : forms_or_none rtype ≡ shows.forms = forms_one rtype shows.forms shows.its in
      let mine : are.is_row.forms ≡ shows.forms = (let e : Some are.is_row.forms ≡ Some shows.forms = sym are.is_row.its ∙ shows.its in cc) in
      let each : AreFieldsOf shows.forms are.row = subst (λ (l : List Form). AreFieldsOf l are.row) mine are.is_row.each in
      pieces_one shows.texts (forms_tokens shows.forms are.row) (all_one shows.forms are.row (map printed shows.texts) each shows.prints)
      ∙ sym (λ i. forms_tokens (forms i) (row_is i))

  -- there are some, and so any tokens with these texts are such
  module _ (row_written : (row : List Field) → IsFurtherRow rtype row → AreOctets (octets row) → (tokens : List Token) × IsPrintedAs rtype row tokens)
      (small : AreOctets given) where
    rests : HasNoEmptyRest rtype (row_read rtype given) → HasNoEmptyRest rtype are.row
    rests some = subst (HasNoEmptyRest rtype) row_is some

    found : (tokens : List Token) × IsPrintedAs rtype are.row tokens
    found = row_written are.row are.is_row (subst AreOctets are.written small)

    pub data_written : (tokens : List Token) × AllZip WritesToken tokens (further_tokens rtype given)
    data_written = (found.0, subst (λ (l : List (List ℕ)). AllZip WritesToken found.0 l) (texts_are found.0 found.1) found.1.writes)

    data_shows : (tokens : List Token) → AllZip WritesToken tokens (further_tokens rtype given) → IsPrintedAs rtype are.row tokens
    data_shows tokens writes = record {
      forms = found.1.forms;
      its = found.1.its;
      texts = found.1.texts;
      prints = found.1.prints;
      writes = subst (λ (l : List (List ℕ)). AllZip WritesToken tokens l) (sym (texts_are found.0 found.1)) writes;
    }

    module _ (names : List ℕ → List (List ℕ) → Type 0)
        (row_scans : (row : List Field) (tokens : List Token) → IsFurtherRow rtype row → HasNoEmptyRest rtype row → AreOctets (octets row) → IsPrintedAs rtype row tokens
        → ScansFurther names rtype row tokens []) where
      pub data_back : HasNoEmptyRest rtype (row_read rtype given) → (tokens : List Token) → AllZip WritesToken tokens (further_tokens rtype given) → AppendsFurther names rtype tokens [] [] given
      data_back some tokens writes = record {
        row = are.row;
        scans = row_scans are.row tokens are.is_row (rests some) (subst AreOctets are.written small) (data_shows tokens writes);
        behind = are.written;
      }

    pub data_alone : (names : List ℕ → List (List ℕ) → Type 0) → ((row other : List Field) (tokens left : List Token) → IsFurtherRow rtype row → HasNoEmptyRest rtype row → AreOctets (octets row)
        → IsPrintedAs rtype row tokens → ScansFurther names rtype other tokens left → AreOctets (octets other) → (octets other ≡ octets row) × (left ≡ []))
        → HasNoEmptyRest rtype (row_read rtype given) → (other : List ℕ) (tokens left : List Token) → AllZip WritesToken tokens (further_tokens rtype given)
        → AppendsFurther names rtype tokens left [] other → AreOctets other → (other ≡ given) × (left ≡ [])
    data_alone names row_alone some other tokens left writes scans are_other =
        let both = row_alone are.row scans.row tokens left are.is_row (rests some) (subst AreOctets are.written small) (data_shows tokens writes) scans.scans
        (subst AreOctets scans.behind are_other) in
        (scans.behind ∙ both.0 ∙ sym are.written, both.1)
