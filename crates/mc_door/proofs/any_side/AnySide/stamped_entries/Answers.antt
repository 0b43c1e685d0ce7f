use Rattle.mc_door.specs.Roles.{role_of}
use Rattle.mc_door.proofs.AnySideLists.{listed_by}
use Rattle.mc_door.proofs.any_side.AnySide.stamped_entries.Goals as goal

pub returns-in-One-clause-listed : goal.returns-in-One-clause-listed
returns-in-One-clause-listed c = listed_by c.args.self.now _ (role_of c.stamped_entries.new.self) c.args.words.now c.stamped_entries.new.words c.stamped_entries.result c.in-One.is c.stamped_entries.ensures

pub returns-in-Two-clause-listed : goal.returns-in-Two-clause-listed
returns-in-Two-clause-listed c = listed_by c.args.self.now _ (role_of c.stamped_entries-in-Two.new.self) c.args.words.now c.stamped_entries-in-Two.new.words c.stamped_entries-in-Two.result c.in-Two.is c.stamped_entries-in-Two.ensures

pub returns-in-Three-clause-listed : goal.returns-in-Three-clause-listed
returns-in-Three-clause-listed c = listed_by c.args.self.now _ (role_of c.stamped_entries-in-Three.new.self) c.args.words.now c.stamped_entries-in-Three.new.words c.stamped_entries-in-Three.result c.in-Three.is c.stamped_entries-in-Three.ensures

pub returns-in-Four-clause-listed : goal.returns-in-Four-clause-listed
returns-in-Four-clause-listed c = listed_by c.args.self.now _ (role_of c.stamped_entries-in-Four.new.self) c.args.words.now c.stamped_entries-in-Four.new.words c.stamped_entries-in-Four.result c.in-Four.is c.stamped_entries-in-Four.ensures

pub returns-in-Five-clause-listed : goal.returns-in-Five-clause-listed
returns-in-Five-clause-listed c = listed_by c.args.self.now _ (role_of c.stamped_entries-in-Five.new.self) c.args.words.now c.stamped_entries-in-Five.new.words c.stamped_entries-in-Five.result c.in-Five.is c.stamped_entries-in-Five.ensures

pub returns-in-Six-clause-listed : goal.returns-in-Six-clause-listed
returns-in-Six-clause-listed c = listed_by c.args.self.now _ (role_of c.stamped_entries-in-Six.new.self) c.args.words.now c.stamped_entries-in-Six.new.words c.stamped_entries-in-Six.result c.in-Six.is c.stamped_entries-in-Six.ensures

pub returns-in-Seven-clause-listed : goal.returns-in-Seven-clause-listed
returns-in-Seven-clause-listed c = listed_by c.args.self.now _ (role_of c.stamped_entries-in-Seven.new.self) c.args.words.now c.stamped_entries-in-Seven.new.words c.stamped_entries-in-Seven.result c.in-Seven.is c.stamped_entries-in-Seven.ensures

pub returns-in-Eight-clause-listed : goal.returns-in-Eight-clause-listed
returns-in-Eight-clause-listed c = listed_by c.args.self.now _ (role_of c.stamped_entries-in-Eight.new.self) c.args.words.now c.stamped_entries-in-Eight.new.words c.stamped_entries-in-Eight.result c.in-Eight.is c.stamped_entries-in-Eight.ensures
