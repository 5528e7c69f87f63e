-- The reasons for which an input is refused, as they are printed.
use Rattle.std.specs.Prelude.{ℕ, List, codes}
use Rattle.icnf_reader.specs.declared.item.Why.{Why}
use Rattle.icnf_reader.specs.declared.item.Why.TheVariants.{HeaderExpected, UnexpectedWord, OutOfRange, NotClosed, LineTooLong, TooManyLiterals, InputTooLong}

abbrev pub why_text : Why → List ℕ
why_text HeaderExpected = codes "header expected"
why_text UnexpectedWord = codes "unexpected word"
why_text OutOfRange = codes "number out of range"
why_text NotClosed = codes "not closed"
why_text LineTooLong = codes "line too long"
why_text TooManyLiterals = codes "too many literals"
why_text InputTooLong = codes "input too long"
