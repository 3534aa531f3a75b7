use Rattle.std.proofs.Common.{inl, inr}
use Rattle.sql_lexer.proofs.TextLemmas.{is_text, is_enclosed}
use Rattle.sql_lexer.proofs.texts.token_text.Goals as goal

pub in_lower_case-requires : goal.in_lower_case-requires
in_lower_case-requires c = is_text c.args.text.now c.args.token.now c.requires

pub as_written-requires : goal.as_written-requires
as_written-requires c = is_text c.args.text.now c.args.token.now c.requires

pub unquoted-requires-clause-long : goal.unquoted-requires-clause-long
unquoted-requires-clause-long c = (is_enclosed c.args.text.now c.args.token.now c.requires (inl c.in-Quoted.is)).0

pub unquoted-requires-clause-utf8 : goal.unquoted-requires-clause-utf8
unquoted-requires-clause-utf8 c = (is_enclosed c.args.text.now c.args.token.now c.requires (inl c.in-Quoted.is)).1

pub unquoted-requires-in-Str-clause-long : goal.unquoted-requires-in-Str-clause-long
unquoted-requires-in-Str-clause-long c = (is_enclosed c.args.text.now c.args.token.now c.requires (inr c.in-Str.is)).0

pub unquoted-requires-in-Str-clause-utf8 : goal.unquoted-requires-in-Str-clause-utf8
unquoted-requires-in-Str-clause-utf8 c = (is_enclosed c.args.text.now c.args.token.now c.requires (inr c.in-Str.is)).1
