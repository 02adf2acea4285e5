use Rattle.wast_tokens.proofs.Names.{bare_name, quoted_name, doubled_name, string_name}
use Rattle.wast_tokens.proofs.values.names_have_one_value.Goals as goal

pub returns-clause-bare : goal.returns-clause-bare
returns-clause-bare c = bare_name

pub returns-clause-quoted : goal.returns-clause-quoted
returns-clause-quoted c = quoted_name

pub returns-clause-escaped : goal.returns-clause-escaped
returns-clause-escaped c = doubled_name

pub returns-clause-by_string : goal.returns-clause-by_string
returns-clause-by_string c = string_name
