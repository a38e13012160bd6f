-- Records of stations, one after the other, up to the first station that is refused: Records, and each number of them: RecordsLaws.
pub mod Records
pub mod RecordsLaws
