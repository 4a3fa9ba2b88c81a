use mathlib.Core.Path.{ap₂}
use mathlib.Core.Bool.{◌&&◌}
use Rattle.row_tests.proofs.Reasons.{by_test}
use Rattle.row_tests.proofs.Row.is_wrong.Goals as goal

pub returns-in-StringOut : goal.returns-in-StringOut
returns-in-StringOut c = by_test _ _ _ _ _ _ c.in-StringOut.is c.string_out.ensures

pub returns-in-NumberOut : goal.returns-in-NumberOut
returns-in-NumberOut c = by_test _ _ _ _ _ _ c.in-NumberOut.is c.no_string.ensures

pub returns-in-OptionalOut : goal.returns-in-OptionalOut
returns-in-OptionalOut c = by_test _ _ _ _ _ _ c.in-OptionalOut.is c.no_optional.ensures

pub returns-in-RangeOut : goal.returns-in-RangeOut
returns-in-RangeOut c = by_test _ _ _ _ _ _ c.in-RangeOut.is c.no_range.ensures

pub returns-in-NameOut : goal.returns-in-NameOut
returns-in-NameOut c = by_test _ _ _ _ _ _ c.in-NameOut.is c.name_out.ensures

pub returns-in-PartNumber : goal.returns-in-PartNumber
returns-in-PartNumber c = by_test _ _ _ _ _ _ c.in-PartNumber.is (ap₂ ◌&&◌ c.there.ensures c.no_string-in-PartNumber.ensures)

pub returns-in-PartOptional : goal.returns-in-PartOptional
returns-in-PartOptional c = by_test _ _ _ _ _ _ c.in-PartOptional.is (ap₂ ◌&&◌ c.there-in-PartOptional.ensures c.no_optional-in-PartOptional.ensures)

pub returns-in-PartRange : goal.returns-in-PartRange
returns-in-PartRange c = by_test _ _ _ _ _ _ c.in-PartRange.is (ap₂ ◌&&◌ c.there-in-PartRange.ensures c.no_range-in-PartRange.ensures)

pub returns-in-Over : goal.returns-in-Over
returns-in-Over c = by_test _ _ _ _ _ _ c.in-Over.is c.over.ensures

pub returns-in-PartOver : goal.returns-in-PartOver
returns-in-PartOver c = by_test _ _ _ _ _ _ c.in-PartOver.is (ap₂ ◌&&◌ c.there-in-PartOver.ensures c.over-in-PartOver.ensures)

pub returns-in-Extensions : goal.returns-in-Extensions
returns-in-Extensions c = by_test _ _ _ _ _ _ c.in-Extensions.is c.extensions_wrong.ensures

pub returns-in-NumberHigh : goal.returns-in-NumberHigh
returns-in-NumberHigh c = by_test _ _ _ _ _ _ c.in-NumberHigh.is c.number_high.ensures

pub returns-in-DnsHigh : goal.returns-in-DnsHigh
returns-in-DnsHigh c = by_test _ _ _ _ _ _ c.in-DnsHigh.is c.dns_high.ensures

pub returns-in-OptionalHigh : goal.returns-in-OptionalHigh
returns-in-OptionalHigh c = by_test _ _ _ _ _ _ c.in-OptionalHigh.is c.optional_high.ensures

pub returns-in-NotZero : goal.returns-in-NotZero
returns-in-NotZero c = by_test _ _ _ _ _ _ c.in-NotZero.is c.there-in-NotZero.ensures
