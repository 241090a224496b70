-- What a displayed document writes to the formatter that is borrowed.
use Rattle.std.proofs.Common.{◌≡◌, ℕ, List, [], ◌∷◌, refl, sym, subst, MutBor, Some}
use Rattle.std.specs.List.{FoldsTo, concat}
use Rattle.std.specs.Fmt.{HasWritten, IsPlainFormatter, WritesInCalls}
use Rattle.std.specs.declared.fmt.Formatter.{Formatter}
use Rattle.std.proofs.Output.{LentTook, WritesText-from_lent, has_written_append, writes_in_calls_nil}
use Rattle.dns_text.specs.declared.layout.DisplayKind.{DisplayKind}
use Rattle.dns_text.specs.declared.writer.Writer.{Writer}
use Rattle.dns_text.specs.Document.{Piece, document_text}
use Rattle.dns_text.specs.Layout.{layout_of}
use Rattle.dns_text.specs.Writing.{Adds, written_behind}
use Rattle.dns_text.specs.Written.{IsAt, IsWritten, text_in_front}
use Rattle.dns_text.proofs.Writings.{text_in_front-written_behind}

module _ {W : Type 0} (took : W → List ℕ → W → Type 0) where
  -- what a formatter's own writer promises of a call
  abbrev pub PlainTook : Formatter W → List ℕ → Formatter W → Type 0
  PlainTook old text new = IsPlainFormatter old → HasWritten took old text new

  plain_calls : (old : Formatter W) (texts : List (List ℕ)) (new : Formatter W) → FoldsTo PlainTook old texts new
      → IsPlainFormatter old → HasWritten took old (concat texts) new
  plain_calls old [] new same plain = subst (HasWritten took old []) same (record { wrote = writes_in_calls_nil took old.writer; plain = plain })
  plain_calls old (text ∷ texts) new calls plain =
      let first = calls.1 plain in
      has_written_append took old text calls.0 (concat texts) new first (plain_calls calls.0 texts new calls.2 first.plain)

  plain_writes : (old : Formatter W) (text : List ℕ) (new : Formatter W) → WritesInCalls PlainTook old text new
      → IsPlainFormatter old → HasWritten took old text new
  plain_writes old text new writes plain =
      subst (λ l. HasWritten took old l new) writes.whole (plain_calls old writes.parts new writes.calls plain)

  whole : (start now : Writer (MutBor (Formatter W))) (back : Formatter W) (document : List Piece)
      → IsAt start [] → (now.target.ghost_name ≡ start.target.ghost_name → back ≡ now.target.now)
      → IsPlainFormatter start.target.now → Adds (IsWritten (LentTook PlainTook)) start document now
      → HasWritten took start.target.now (document_text (layout_of start.kind) document) back
  whole start now back document at returned plain adds =
      let begun : IsWritten (LentTook PlainTook) start [] start = record { same_kind = refl; at = at; text = writes_in_calls_nil (LentTook PlainTook) start.target } in
      let all = adds start [] begun in
      let text = WritesText-from_lent PlainTook start.target now.target back (Some (text_in_front (layout_of start.kind) (written_behind [] document))) returned all.text in
      subst (λ l. HasWritten took start.target.now l back) (text_in_front-written_behind (layout_of start.kind) [] document)
      (plain_writes start.target.now _ back text plain)

  -- the writer was at the start of a line, and the formatter is back with what was written
  pub displayed : (start now : Writer (MutBor (Formatter W))) (old back : Formatter W) (kind : DisplayKind) (document : List Piece)
      → start.target.now ≡ old → start.kind ≡ kind → IsAt start []
      → (now.target.ghost_name ≡ start.target.ghost_name → back ≡ now.target.now)
      → IsPlainFormatter old → Adds (IsWritten (LentTook PlainTook)) start document now
      → HasWritten took old (document_text (layout_of kind) document) back
  displayed start now old back kind document lent kinds at returned plain adds =
      subst (λ k. HasWritten took old (document_text (layout_of k) document) back) kinds
      (subst (λ f. HasWritten took f (document_text (layout_of start.kind) document) back) lent
      (whole start now back document at returned (subst IsPlainFormatter (sym lent) plain) adds))
