use mathlib.Core.List.{◌++◌}
use Rattle.sections.proofs.Each.{each_then}
use Rattle.search.specs.Found.{found_in}
use Rattle.lines.specs.Tables.{tables_out, cert_strings_out, cert_ranges_out, codes_over, marks_over, names_high}
use Rattle.lines.proofs.chain_wrong.Goals as goal

pub returns : goal.returns
returns c = each_then (found_in _ _) tables_out (cert_strings_out ++ (cert_ranges_out ++ (codes_over ++ (marks_over ++ names_high)))) _ c.tables_out-f.ensures (each_then (found_in _ _) cert_strings_out (cert_ranges_out ++ (codes_over ++ (marks_over ++ names_high))) _ c.cert_strings_out-f.ensures (each_then (found_in _ _) cert_ranges_out (codes_over ++ (marks_over ++ names_high)) _ c.cert_ranges_out-f.ensures (each_then (found_in _ _) codes_over (marks_over ++ names_high) _ c.codes_over-f.ensures (each_then (found_in _ _) marks_over names_high _ c.marks_over-f.ensures c.names_high.ensures))))
