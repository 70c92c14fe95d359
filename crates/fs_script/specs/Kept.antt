-- Statements as they are kept.
use Rattle.fs_script.specs.declared.statement.Statement.{Statement}
use Rattle.fs_script.specs.declared.statement.Statement.TheVariants as statement
use Rattle.fs_script.specs.declared.script.Form.{Form}
use Rattle.fs_script.specs.declared.script.Form.TheVariants.{Begin, End, Drain, Colls, Acked, Other}

abbrev pub statement_of : Form → Statement
statement_of Begin = statement.Begin
statement_of End = statement.End
statement_of Drain = statement.Drain
statement_of Colls = statement.Colls
statement_of Acked = statement.Acked
statement_of (Other statement) = statement.value
