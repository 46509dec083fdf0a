use Rattle.flow_forms.proofs.Held.{forms_keep_iterations}
use Rattle.flow_forms.proofs.laws.forms_keep_iterations.Goals as goal

pub returns : goal.returns
returns c = forms_keep_iterations
