pub mod TaskRecords
