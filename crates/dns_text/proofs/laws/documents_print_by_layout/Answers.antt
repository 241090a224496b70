use Rattle.dns_text.proofs.DocumentTexts.{one_line, many_lines, end, held, inner, bare, comment, noted}
use Rattle.dns_text.proofs.laws.documents_print_by_layout.Goals as goal

pub returns : goal.returns
returns c = record { line = one_line; lines = many_lines; end = end; held = held; inner = inner; bare = bare; comment = comment; noted = noted }
